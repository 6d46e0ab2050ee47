use Rattle.std.proofs.Common.{◌≡◌, ◌∙◌, ◌++◌, List, Option, None, Some, append_assoc, ap, false, refl, sym}
use Rattle.std.specs.Prelude.{option_to_list}
use Rattle.std.proofs.lemmas.Result.{on_ok_weaker}
use Rattle.feed_mapping.specs.Notes.{Reason, note_views}
use Rattle.feed_mapping.specs.Outcomes.{Outcome, notes_below, outcome_notes, outcome_records}
use Rattle.feed_mapping.specs.PriceViews.{reason_read}
use Rattle.feed_mapping.specs.PriceTexts.{PriceTexts, price_view}
use Rattle.feed_mapping.specs.Prices.{PriceContext, context_view, is_nothing, outcome_of, price_outcome, price_reasons}
use Rattle.feed_mapping.specs.Records.{first_some}
use Rattle.feed_mapping.proofs.prices.add_price.Goals as goal

told-of : (reason : Option Reason) (context : PriceContext) (price : PriceTexts)
    → notes_below (outcome_of reason context price) ++ option_to_list reason ≡ outcome_notes (outcome_of reason context price)
told-of None context price = refl
told-of (Some reason) context price = refl

-- a Price that is something comes to its record, or is left out
priced : (context : PriceContext) (price : PriceTexts) → is_nothing context price ≡ false
    → outcome_of (first_some (price_reasons context price)) context price ≡ price_outcome context price
priced context price some = rw some refl

pub returns-clause-records : goal.returns-clause-records
returns-clause-records c =
    let context = context_view c.args.context.now in
    let some = sym c.is_nothing.ensures ∙ c.if-is_nothing.false in
    on_ok_weaker c.push_reason.result
    (λ told. c.in_ok-left_out.ensures.1.0 ∙ ap (λ (o : Outcome). c.args.records.now ++ outcome_records o) (priced context (price_view c.args.price.now) some))
    c.push_reason.ensures

pub returns-clause-notes : goal.returns-clause-notes
returns-clause-notes c =
    let context = context_view c.args.context.now in
    let price = price_view c.args.price.now in
    let old = note_views c.args.notes.now.items in
    let reason = first_some (price_reasons context price) in
    let some = sym c.is_nothing.ensures ∙ c.if-is_nothing.false in
    on_ok_weaker c.push_reason.result
    (λ told. told ∙ ap (λ (ns : List Reason). ns ++ option_to_list (reason_read c.in_ok-left_out.left_out)) c.in_ok-left_out.ensures.1.1
    ∙ append_assoc old (notes_below (outcome_of reason context price)) (option_to_list (reason_read c.in_ok-left_out.left_out))
    ∙ ap (λ (r : Option Reason). old ++ (notes_below (outcome_of reason context price) ++ option_to_list r)) c.in_ok-left_out.ensures.0
    ∙ ap (λ (ns : List Reason). old ++ ns) (told-of reason context price)
    ∙ ap (λ (o : Outcome). old ++ outcome_notes o) (priced context price some))
    c.push_reason.ensures
