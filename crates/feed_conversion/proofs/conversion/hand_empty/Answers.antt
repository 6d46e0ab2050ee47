use Rattle.std.proofs.Common.{◌≡◌}
use Rattle.feed_conversion.specs.private.Stages.{first_text}
use Rattle.feed_conversion.specs.private.StageViews.{begun_view}
use Rattle.feed_conversion.proofs.PackingLaws.{one_more}
use Rattle.feed_conversion.proofs.conversion.hand_empty.Goals as goal

pub loop-before-preserved : goal.loop-before-preserved
loop-before-preserved g c =
    let text : c.into_bytes-text.result.items ≡ first_text (begun_view c.args.begun.now) c.loop-before.before =
    rw c.into_bytes-text.ensures.value c.in_ok-first_text.ensures in
    one_more g.T.Target.with_part (begun_view c.args.begun.now) c.args.most c.loop-before.before _ _ _ c.into_bytes-text.result.items c.loop-before-test.true text
    c.in_ok-hand_on.ensures c.loop-before.invariant
