use Rattle.std.proofs.Common.{◌≡◌}
use Rattle.feed_mapping.specs.Identifiers.{identifiers_in}
use Rattle.feed_outline.proofs.Counts.{count}
use Rattle.feed_mapping.proofs.identifiers.next_identifier.Given as goal

abbrev pub invariant-loop-node : goal.invariant-loop-node
invariant-loop-node l =
    identifiers_in l.kind.name.now l.kind.type_name.now l.rest
    ≡ identifiers_in l.kind.name.now l.kind.type_name.now l.elements

abbrev pub decreases-loop-node : goal.decreases-loop-node
decreases-loop-node l = count l.rest
