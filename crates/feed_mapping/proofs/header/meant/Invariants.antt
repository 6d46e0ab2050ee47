use Rattle.std.proofs.Common.{◌≡◌, length}
use Rattle.std.specs.Prelude.{codes}
use Rattle.feed_mapping.specs.Elements.{composites}
use Rattle.feed_mapping.specs.Header.{meant}
use Rattle.feed_mapping.specs.PartyViews.{pair_view}
use Rattle.feed_mapping.proofs.header.meant.Given as goal

abbrev pub invariant-loop-found : goal.invariant-loop-found
invariant-loop-found l =
    meant (pair_view l.pair) (composites (codes "Addressee") l.rest) ≡ meant (pair_view l.pair) (composites (codes "Addressee") l.elements)

abbrev pub decreases-loop-found : goal.decreases-loop-found
decreases-loop-found l = length (composites (codes "Addressee") l.rest)
