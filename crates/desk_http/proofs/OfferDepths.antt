-- How deep the JSON of answers about the offers of an article nests.
use Rattle.std.proofs.Common.{◌≤◌, ℕ, List, Option, Some, None, arith, refl}
use Rattle.serde_json.specs.Data.{depth}
use Rattle.price_rules.specs.declared.calendar.Span.{Span}
use Rattle.series_rules.specs.declared.answers.PricedOffer.{PricedOffer}
use Rattle.series_rules.specs.declared.answers.ChosenOffer.{ChosenOffer}
use Rattle.series_rules.specs.declared.answers.OfferCalendar.{OfferCalendar}
use Rattle.desk_http.specs.Json.{amount, or_null}
use Rattle.desk_http.specs.OfferJson.{calendar, choice, chosen_offer, dated, price, priced, span}
use Rattle.desk_http.proofs.Depths.{list_depth, null_depth}

pub priced_depth : (p : PricedOffer) → depth (priced p) ≤ 1
priced_depth p = rw (null_depth amount (λ _. refl) p.amount) (omega arith)

pub price_depth : (isbn : List ℕ) (offers : List PricedOffer) → depth (price isbn offers) ≤ 3
price_depth isbn offers = omega (arith, list_depth priced 1 priced_depth offers)

chosen_depth : (c : Option ChosenOffer) → depth (or_null chosen_offer c) ≤ 1
chosen_depth None = omega arith
chosen_depth (Some c) = omega arith

pub choice_depth : (isbn : List ℕ) (c : Option ChosenOffer) → depth (choice isbn c) ≤ 2
choice_depth isbn c = omega (arith, chosen_depth c)

span_depth : (s : Span) → depth (span s) ≤ 1
span_depth s = rw (null_depth amount (λ _. refl) s.amount) (omega arith)

pub dated_depth : (d : OfferCalendar) → depth (dated d) ≤ 3
dated_depth d = omega (arith, list_depth span 1 span_depth d.spans)

pub calendar_depth : (isbn : List ℕ) (offers : List OfferCalendar) → depth (calendar isbn offers) ≤ 5
calendar_depth isbn offers = omega (arith, list_depth dated 3 dated_depth offers)
