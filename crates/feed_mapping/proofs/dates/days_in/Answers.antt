use Rattle.std.proofs.Common.{◌∙◌, ap, sym}
use Rattle.feed_mapping.proofs.DateLaws.{one_more}
use Rattle.feed_mapping.specs.DateViews.{days_read}
use Rattle.feed_mapping.specs.Dates.{days_of}
use Rattle.feed_mapping.specs.Elements.{Composite}
use Rattle.feed_mapping.proofs.dates.days_in.Goals as goal

pub loop-found-preserved : goal.loop-found-preserved
loop-found-preserved c =
    let read = c.days_of.ensures ∙ ap (λ (x : Composite). days_of x.below) c.found.view_is in
    one_more (days_read c.loop-found.dated) (days_read c.days_of.result) _ _ c.loop-found.rest c.in-Some.behind c.in-Some.found (sym c.in-Some.ensures) read c.and_days-dated.ensures c.loop-found.invariant
