use Rattle.std.proofs.Common.{◌≡◌, ◌∙◌, ◌∷◌, [], Option, ap, refl}
use Rattle.std.specs.Option.{unwrap_or}
use Rattle.onix_records.specs.Fields.{optional, or_default}
use Rattle.onix_terms.specs.Code.{code2_of, currency_of}
use Rattle.onix_terms.specs.Quantity.{quantity_of}
use Rattle.feed_mapping.specs.Amounts.{written_amount}
use Rattle.feed_mapping.specs.Notes.{Reason}
use Rattle.feed_mapping.specs.PriceTexts.{price_view}
use Rattle.feed_mapping.specs.PriceViews.{reason_read}
use Rattle.feed_mapping.specs.Records.{first_some, invalid, parsed_term}
use Rattle.feed_mapping.specs.Territories.{area_reason}
use Rattle.feed_mapping.specs.declared.notes.Wrong.TheVariants as bad
use Rattle.feed_terms.specs.declared.price.Kind.{Kind}
use Rattle.feed_mapping.proofs.ElementLaws.{text-or-none}
use Rattle.feed_mapping.proofs.reasons.field_reason.Goals as goal

same-five : {a b c d e v w x y z : Option Reason} → a ≡ v → b ≡ w → c ≡ x → d ≡ y → e ≡ z → first_some (a ∷ b ∷ c ∷ d ∷ e ∷ []) ≡ first_some (v ∷ w ∷ x ∷ y ∷ z ∷ [])
same-five v w x y z = cc

pub returns : goal.returns
returns c = λ renamed.
    let price = price_view c.args.price.now in
    let header = c.args.opening.now.header in
    let amount : reason_read c.unless.result ≡ invalid written_amount bad.Amount price.amount =
    let read = c.written_amount-amount.ensures in
    let is = c.is_some.ensures in
    let made = c.unless.ensures in cc in
    let typed : reason_read c.unless-2.result ≡ invalid (or_default (parsed_term code2_of) header.default_type) bad.PriceType price.price_type =
    let own = ap (λ (k : Kind). k.price_type) c.kind_in-kind.ensures in
    let is = c.is_some-2.ensures in
    let made = c.unless-2.ensures in cc in
    let coded : reason_read c.unless-3.result ≡ invalid (or_default (parsed_term currency_of) header.default_currency) bad.Currency price.currency =
    let own = ap (λ (k : Kind). k.currency) c.kind_in-kind.ensures in
    let is = c.is_some-3.ensures in
    let made = c.unless-3.ensures in cc in
    let placed : reason_read c.in_ok-area_reason.field-0 ≡ area_reason price.area = c.in_ok-area_reason.ensures renamed in
    let minimum : c.unwrap_or-minimum.result.now ≡ unwrap_or price.minimum [] =
    text-or-none c.args.price.now.minimum _ c.unwrap_or-minimum.result refl c.unwrap_or-minimum.ensures in
    let counted : reason_read c.unless-4.result ≡ invalid (optional (parsed_term quantity_of)) bad.Quantity (unwrap_or price.minimum []) =
    let read = c.parsed_quantity.ensures in
    let may = c.may_be_empty-is_minimum.ensures in
    let made = c.unless-4.ensures in cc in
    c.first_of.ensures ∙ same-five amount typed coded placed counted
