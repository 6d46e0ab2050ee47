-- The records of answers about the offers of an article.
use Rattle.std.specs.Prelude.{ℕ, List, [], ◌∷◌, ◌++◌, Option, Some, None, codes, length, map}
use Rattle.std.specs.Fmt.{decimal}
use Rattle.std.specs.List.{flat_map}
use Rattle.std.specs.Option.{option_map_or}
use Rattle.onix_terms.specs.Amount.{amount_text}
use Rattle.onix_terms.specs.Day.{day_text}
use Rattle.price_rules.specs.declared.calendar.Span.{Span}
use Rattle.series_rules.specs.declared.answers.ListedOffer.{ListedOffer}
use Rattle.series_rules.specs.declared.answers.PricedOffer.{PricedOffer}
use Rattle.series_rules.specs.declared.answers.ChosenOffer.{ChosenOffer}
use Rattle.series_rules.specs.declared.answers.OfferCalendar.{OfferCalendar}
use Rattle.desk_texts.specs.Records.{Fields, Records}

-- which offer it is
abbrev pub listed_fields : ListedOffer → Fields
listed_fields o = o.series ∷ o.reference ∷ decimal o.place ∷ o.availability ∷ []

-- an offer and its current price
abbrev pub priced_fields : PricedOffer → Fields
priced_fields p =
    codes "offer" ∷ (listed_fields p.offer ++ option_map_or amount_text p.amount [] ∷ [])

-- the name of an answer, the article, and how many offers it has
abbrev pub head_fields : List ℕ → List ℕ → ℕ → Fields
head_fields name isbn count = name ∷ isbn ∷ decimal count ∷ []

-- how many offers an article has, then each with its current price
unfoldable pub price_records : List ℕ → List PricedOffer → Records
price_records isbn offers =
    (codes "price" ∷ isbn ∷ decimal (length offers) ∷ []) ∷ map priced_fields offers

-- the rule that takes an offer, the offer and its current price; or that none is chosen
abbrev pub choice_fields : List ℕ → Option ChosenOffer → Fields
choice_fields isbn None = codes "choice" ∷ isbn ∷ codes "none" ∷ []
choice_fields isbn (Some c) =
    codes "choice" ∷ isbn ∷ decimal c.rule
    ∷ (listed_fields c.offer ++ amount_text c.amount ∷ [])

-- days in a row with one current price, or with none
abbrev pub span_fields : Span → Fields
span_fields s =
    codes "span" ∷ day_text s.first ∷ day_text s.last
    ∷ option_map_or amount_text s.amount [] ∷ []

-- an offer, then its spans
abbrev pub dated_records : OfferCalendar → Records
dated_records c = (codes "offer" ∷ listed_fields c.offer) ∷ map span_fields c.spans

-- how many offers an article has, then each with its calendar
unfoldable pub calendar_records : List ℕ → List OfferCalendar → Records
calendar_records isbn offers =
    (codes "calendar" ∷ isbn ∷ decimal (length offers) ∷ []) ∷ flat_map dated_records offers
