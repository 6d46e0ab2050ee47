use Rattle.std.proofs.Common.{◌≡◌}
use Rattle.feed_mapping.specs.Strangers.{has_stranger_in}
use Rattle.feed_outline.proofs.Counts.{count}
use Rattle.feed_mapping.proofs.strangers.has_stranger_in.Given as goal

abbrev pub invariant-loop-node : goal.invariant-loop-node
invariant-loop-node l = has_stranger_in l.name l.rest ≡ has_stranger_in l.name l.elements

abbrev pub decreases-loop-node : goal.decreases-loop-node
decreases-loop-node l = count l.rest
