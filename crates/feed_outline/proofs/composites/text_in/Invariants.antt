use Rattle.std.proofs.Common.{◌≡◌}
use Rattle.feed_outline.specs.Composites.{text_in}
use Rattle.feed_outline.proofs.Counts.{count}
use Rattle.feed_outline.proofs.composites.text_in.Given as goal

abbrev pub invariant-loop-node : goal.invariant-loop-node
invariant-loop-node l = text_in l.name l.rest ≡ text_in l.name l.elements

abbrev pub decreases-loop-node : goal.decreases-loop-node
decreases-loop-node l = count l.rest
