-- The JSON of answers about the offers of an article.
use Prim.Native.String.{String}
use Rattle.std.specs.Prelude.{ℕ, List, [], ◌∷◌, Option}
use Rattle.serde_json.specs.Data.{Data, string}
use Rattle.price_rules.specs.declared.calendar.Span.{Span}
use Rattle.series_rules.specs.declared.answers.ListedOffer.{ListedOffer}
use Rattle.series_rules.specs.declared.answers.PricedOffer.{PricedOffer}
use Rattle.series_rules.specs.declared.answers.ChosenOffer.{ChosenOffer}
use Rattle.series_rules.specs.declared.answers.OfferCalendar.{OfferCalendar}
use Rattle.desk_http.specs.Json.{Fields, amount, answered, count, day, list_of, object_of, or_null}

-- an offer, and these members
abbrev pub offered : ListedOffer → Fields → Data
offered o fields = object_of (
    ("series", string o.series) ∷ ("reference", string o.reference)
    ∷ ("place", count o.place) ∷ ("availability", string o.availability) ∷ fields)

-- an answer about the article, and this
abbrev pub about : String → List ℕ → Fields → Data
about name isbn fields = answered name (("isbn", string isbn) ∷ fields)

-- an offer and its current price
abbrev pub priced : PricedOffer → Data
priced p = offered p.offer (("amount", or_null amount p.amount) ∷ [])

-- the offers of an article with their current prices
abbrev pub price : List ℕ → List PricedOffer → Data
price isbn offers = about "price" isbn (("offers", list_of priced offers) ∷ [])

-- the offer that is chosen, its current price and the rule that takes it
abbrev pub chosen_offer : ChosenOffer → Data
chosen_offer c = offered c.offer (("amount", amount c.amount) ∷ ("rule", count c.rule) ∷ [])

-- the choice among the offers of an article
abbrev pub choice : List ℕ → Option ChosenOffer → Data
choice isbn c = about "choice" isbn (("choice", or_null chosen_offer c) ∷ [])

-- days in a row with one current price, or with none
abbrev pub span : Span → Data
span s = object_of (
    ("first", day s.first) ∷ ("last", day s.last) ∷ ("amount", or_null amount s.amount) ∷ [])

-- an offer and its calendar
abbrev pub dated : OfferCalendar → Data
dated c = offered c.offer (("spans", list_of span c.spans) ∷ [])

-- the offers of an article with their calendars
abbrev pub calendar : List ℕ → List OfferCalendar → Data
calendar isbn offers = about "calendar" isbn (("offers", list_of dated offers) ∷ [])
