use Rattle.std.proofs.Common.{◌≡◌, length}
use Rattle.feed_outline.specs.Outlined.{are_below}
use Rattle.feed_outline.specs.Views.{line_views}
use Rattle.feed_outline.proofs.outlines.are_below.Given as goal

abbrev pub invariant-loop-rest : goal.invariant-loop-rest
invariant-loop-rest l = are_below l.before (line_views l.rest) ≡ are_below l.initial.before (line_views l.lines)

abbrev pub decreases-loop-rest : goal.decreases-loop-rest
decreases-loop-rest l = length l.rest
