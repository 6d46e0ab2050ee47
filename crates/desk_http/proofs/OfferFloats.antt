-- No value in an answer about the offers of an article is a float.
use Rattle.std.proofs.Common.{◌≡◌, false, ℕ, List, refl, Option}
use Rattle.serde_json.specs.Written.{has_float}
use Rattle.price_rules.specs.declared.calendar.Span.{Span}
use Rattle.series_rules.specs.declared.answers.PricedOffer.{PricedOffer}
use Rattle.series_rules.specs.declared.answers.ChosenOffer.{ChosenOffer}
use Rattle.series_rules.specs.declared.answers.OfferCalendar.{OfferCalendar}
use Rattle.desk_http.specs.Json.{amount}
use Rattle.desk_http.specs.OfferJson.{calendar, choice, chosen_offer, dated, price, priced, span}
use Rattle.desk_http.proofs.NoFloats.{list_has_none, null_has_none}

pub priced_has_none : (p : PricedOffer) → has_float (priced p) ≡ false
priced_has_none p = rw (null_has_none amount (λ _. refl) p.amount) refl

pub price_has_none : (isbn : List ℕ) (offers : List PricedOffer) → has_float (price isbn offers) ≡ false
price_has_none isbn offers = rw (list_has_none priced priced_has_none offers) refl

pub choice_has_none : (isbn : List ℕ) (c : Option ChosenOffer) → has_float (choice isbn c) ≡ false
choice_has_none isbn c = rw (null_has_none chosen_offer (λ _. refl) c) refl

span_has_none : (s : Span) → has_float (span s) ≡ false
span_has_none s = rw (null_has_none amount (λ _. refl) s.amount) refl

pub dated_has_none : (d : OfferCalendar) → has_float (dated d) ≡ false
dated_has_none d = rw (list_has_none span span_has_none d.spans) refl

pub calendar_has_none : (isbn : List ℕ) (offers : List OfferCalendar) → has_float (calendar isbn offers) ≡ false
calendar_has_none isbn offers = rw (list_has_none dated dated_has_none offers) refl
