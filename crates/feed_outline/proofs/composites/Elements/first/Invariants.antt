use Rattle.std.proofs.Common.{◌≡◌, length}
use Rattle.feed_outline.specs.Outlined.{nodes_at}
use Rattle.feed_outline.specs.Views.{line_views}
use Rattle.feed_outline.proofs.composites.Elements.first.Given as goal

abbrev pub invariant-loop-lines : goal.invariant-loop-lines
invariant-loop-lines l = nodes_at l.depth (line_views l.lines) ≡ l.self

abbrev pub decreases-loop-lines : goal.decreases-loop-lines
decreases-loop-lines l = length l.lines
