use Rattle.std.proofs.Common.{◌∙◌}
use Rattle.feed_conversion.specs.Tallies.{counted, no_tally}
use Rattle.feed_conversion.specs.private.Stages.{taken}
use Rattle.feed_conversion.proofs.OutcomeLaws.{read-by}
use Rattle.feed_conversion.proofs.conversion.convert_by.Goals as goal

pub returns-in-Ok : goal.returns-in-Ok
returns-in-Ok g c = λ o parts same begins.
    let m = c.in-Ok.ensures.message in
    read-by g.T.Target.with_part c.outlines_tell.ensures.again (g.R.Read.remaining c.args.reader.now) o g.W.Words.words same (taken parts (counted no_tally))
    (g.T.Target.parts c.finish.result.target) m.0 m.1 m.2 m.3 m.4 c.args.converter c.taker.inside.converter
    begins (c.taker.view_is ∙ m.5) c.finish.result.ended c.finish.ensures
