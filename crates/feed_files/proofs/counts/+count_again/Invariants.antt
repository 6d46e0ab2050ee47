use Rattle.std.proofs.Common.{◌≤◌}
use Rattle.feed_outline.proofs.Counts.{count}
use Rattle.feed_files.proofs.counts.+count_again.Given as goal

abbrev pub decreases-count_again : goal.decreases-count_again
decreases-count_again l = count l.elements.now

abbrev pub invariant-loop-node : goal.invariant-loop-node
invariant-loop-node l = count l.rest ≤ count l.elements

abbrev pub decreases-loop-node : goal.decreases-loop-node
decreases-loop-node l = count l.rest
