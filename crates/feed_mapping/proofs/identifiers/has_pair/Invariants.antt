use Rattle.std.proofs.Common.{◌≡◌, length}
use Rattle.std.specs.List.{list_any}
use Rattle.feed_mapping.specs.Identifiers.{identifiers_in}
use Rattle.feed_mapping.specs.Parties.{same_pair}
use Rattle.feed_mapping.specs.PartyViews.{pair_view}
use Rattle.feed_mapping.proofs.identifiers.has_pair.Given as goal

abbrev pub invariant-loop-found : goal.invariant-loop-found
invariant-loop-found l =
    list_any (same_pair (pair_view l.pair)) (identifiers_in l.kind.name.now l.kind.type_name.now l.rest)
    ≡ list_any (same_pair (pair_view l.pair)) (identifiers_in l.kind.name.now l.kind.type_name.now l.elements)

abbrev pub decreases-loop-found : goal.decreases-loop-found
decreases-loop-found l = length (identifiers_in l.kind.name.now l.kind.type_name.now l.rest)
