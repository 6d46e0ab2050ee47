use Rattle.std.proofs.Common.{◌≡◌}
use Rattle.feed_mapping.specs.Elements.{composites}
use Rattle.feed_outline.proofs.Counts.{count}
use Rattle.feed_mapping.proofs.elements.next_composite.Given as goal

abbrev pub invariant-loop-node : goal.invariant-loop-node
invariant-loop-node l = composites l.name l.rest ≡ composites l.name l.elements

abbrev pub decreases-loop-node : goal.decreases-loop-node
decreases-loop-node l = count l.rest
