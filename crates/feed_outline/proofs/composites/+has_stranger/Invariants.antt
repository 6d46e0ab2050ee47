use Rattle.std.proofs.Common.{◌≡◌, ◌≤◌}
use Rattle.feed_outline.specs.Composites.{has_stranger}
use Rattle.feed_outline.proofs.Counts.{count}
use Rattle.feed_outline.proofs.composites.+has_stranger.Given as goal

abbrev pub decreases-has_stranger : goal.decreases-has_stranger
decreases-has_stranger l = count l.elements.now

abbrev pub invariant-loop-node : goal.invariant-loop-node
invariant-loop-node l = record {
  strangers : has_stranger l.rest ≡ has_stranger l.elements;
  left : count l.rest ≤ count l.elements;
}

abbrev pub decreases-loop-node : goal.decreases-loop-node
decreases-loop-node l = count l.rest
