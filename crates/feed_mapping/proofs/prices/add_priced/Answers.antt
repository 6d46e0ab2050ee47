use Rattle.std.proofs.Common.{◌≡◌, Option, None, Some, refl, subst, sym}
use Rattle.std.specs.Prelude.{IfOk}
use Rattle.std.proofs.lemmas.List.{append-nil}
use Rattle.feed_mapping.proofs.PriceLaws.{early, known}
use Rattle.feed_mapping.specs.Notes.{Reason, note_views, reason_view}
use Rattle.feed_mapping.specs.PriceTexts.{price_view}
use Rattle.feed_mapping.specs.PriceViews.{reason_read}
use Rattle.feed_mapping.specs.Prices.{AddsUnless, context_view, date_reason, early_reasons, free_reason}
use Rattle.feed_mapping.specs.Records.{first_some}
use Rattle.feed_mapping.proofs.prices.add_priced.Goals as goal

pub returns-in-None : goal.returns-in-None
returns-in-None c =
    let price = price_view c.args.price.now in
    let context = context_view c.args.context.now in
    let is : None ≡ first_some (early_reasons (date_reason price) (free_reason price) price) =
    let dated = c.wrong_date.ensures in
    let free = c.free_reason.ensures in
    let none = c.in-None.ensures in cc in
    subst (λ (x : Option Reason). IfOk c.add_known.result (λ reason. AddsUnless x context price (reason_read reason) c.args.records.now c.add_known.new.records (note_views c.args.notes.now.items) (note_views c.add_known.new.notes.items)))
    (sym (known context price is)) c.add_known.ensures

pub returns-in-Some : goal.returns-in-Some
returns-in-Some c =
    let price = price_view c.args.price.now in
    let context = context_view c.args.context.now in
    let is : Some (reason_view c.in-Some.reason) ≡ first_some (early_reasons (date_reason price) (free_reason price) price) =
    let dated = c.wrong_date.ensures in
    let free = c.free_reason.ensures in
    let some = c.in-Some.ensures in cc in
    subst (λ (x : Option Reason). AddsUnless x context price (reason_read (Some c.in-Some.reason)) c.args.records.now c.args.records.now (note_views c.args.notes.now.items) (note_views c.args.notes.now.items))
    (sym (early context price (reason_view c.in-Some.reason) is))
    (refl, (sym (append-nil c.args.records.now), sym (append-nil (note_views c.args.notes.now.items))))
