use Rattle.std.proofs.Common.{◌≡◌, ◌≤◌}
use Rattle.feed_mapping.specs.Again.{again_in}
use Rattle.feed_outline.proofs.Counts.{count}
use Rattle.feed_mapping.proofs.again.+again_in.Given as goal

abbrev pub decreases-again_in : goal.decreases-again_in
decreases-again_in l = count l.elements.now

abbrev pub invariant-loop-node : goal.invariant-loop-node
invariant-loop-node l = record {
  again : again_in l.rest ≡ again_in l.elements;
  left : count l.rest ≤ count l.elements;
}

abbrev pub decreases-loop-node : goal.decreases-loop-node
decreases-loop-node l = count l.rest
