use Rattle.std.proofs.Common.{◌∙◌, ap, sym}
use Rattle.feed_mapping.specs.Notes.{note_views}
use Rattle.feed_mapping.specs.ProductRecords.{smaller_variants}
use Rattle.feed_mapping.specs.declared.product_records.Fate.{Fate}
use Rattle.feed_conversion.specs.private.Stages.{stored, with_variants}
use Rattle.feed_conversion.specs.private.StageViews.{begun_view}
use Rattle.feed_conversion.proofs.KeptLaws.{on-ok}
use Rattle.feed_conversion.proofs.converter.add_smaller.Goals as goal

pub returns-in-LeftOut : goal.returns-in-LeftOut
returns-in-LeftOut g c =
    let old = stored (begun_view c.args.begun.now) (g.T.Target.parts c.args.target.now) in
    on-ok c.leave_out.result
    (λ told. told ∙ ap (λ (f : Fate). with_variants g.T.Target.with_part c.args.most old c.args.product.now (smaller_variants f (note_views c.args.notes.now) c.args.product.now.below)) (sym c.in-LeftOut.is))
    (c.leave_out.ensures c.args.most)
