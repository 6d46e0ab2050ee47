use Rattle.std.proofs.Common.{◌≡◌, ◌-◌, fold}
use Rattle.feed_conversion.specs.private.Stages.{empty_parts}
use Rattle.feed_conversion.specs.private.StageViews.{begun_view}
use Rattle.feed_conversion.proofs.conversion.hand_empty.Given as goal

abbrev pub invariant-loop-before : goal.invariant-loop-before
invariant-loop-before g l =
    fold g.T.Target.with_part (g.T.Target.parts l.target) (empty_parts (begun_view l.begun) l.before (l.most - l.before))
    ≡ fold g.T.Target.with_part (g.T.Target.parts l.initial.target) (empty_parts (begun_view l.begun) l.initial.before (l.most - l.initial.before))

abbrev pub decreases-loop-before : goal.decreases-loop-before
decreases-loop-before g l = l.most - l.before
