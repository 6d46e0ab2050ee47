-- The JSON of each answer of a desk.
use Prim.Native.String.{String}
use Rattle.std.specs.Prelude.{ℕ, List, [], ◌∷◌}
use Rattle.serde_json.specs.Data.{Data, string}
use Rattle.onix_records.specs.declared.effects.Effect.{Effect}
use Rattle.series_rules.specs.declared.answers.AgreeAnswer.{AgreeAnswer}
use Rattle.series_rules.specs.declared.answers.AgreeAnswer.TheVariants.{Agreed, NameTaken, SeriesTaken}
use Rattle.series_rules.specs.declared.answers.DeliveryAnswer.{DeliveryAnswer}
use Rattle.series_rules.specs.declared.answers.DeliveryAnswer.TheVariants as delivery
use Rattle.series_rules.specs.declared.answers.WaiveAnswer.{WaiveAnswer}
use Rattle.series_rules.specs.declared.answers.WaiveAnswer.TheVariants as waiver
use Rattle.series_rules.specs.declared.answers.GapReport.{GapReport}
use Rattle.series_rules.specs.declared.answers.Answer.{Answer}
use Rattle.series_rules.specs.declared.answers.Answer.TheVariants.{Agreement, BadRange, Calendar, Catalogue, Choice, Delivery, Gaps, Malformed, Price, UnknownSeries, Waiver}
use Rattle.desk_http.specs.CatalogueJson.{catalogue}
use Rattle.desk_http.specs.Json.{Fields, answered, count, list_of, or_null, refused}
use Rattle.desk_http.specs.OfferJson.{calendar, choice, price}

-- the records are no message, or no request, from this row on
abbrev pub malformed : ℕ → Data
malformed row = refused "malformed" (("row", count row) ∷ [])

-- a number of a series, and these members
abbrev pub numbered : List ℕ → ℕ → Fields → Fields
numbered series n fields = ("number", count n) ∷ ("series", string series) ∷ fields

-- the number is below the agreed first
abbrev pub before_first : List ℕ → ℕ → ℕ → Data
before_first series n first =
    refused "before-first" (numbered series n (("first", count first) ∷ []))

-- an agreement is refused for that reason, which has to do with the series of that name
abbrev pub not_agreed : String → List ℕ → Data
not_agreed reason series = refused reason (("series", string series) ∷ [])

-- a number of a series is refused for that reason
abbrev pub number_refused : String → List ℕ → ℕ → Data
number_refused reason series n = refused reason (numbered series n [])

module _ (name : List ℕ) (first : ℕ) where
  -- the answer to an agreement of that name and first number
  abbrev pub agreement : AgreeAnswer → Data
  agreement Agreed = answered "agreed" (("first", count first) ∷ ("series", string name) ∷ [])
  agreement NameTaken = not_agreed "name-taken" name
  agreement (SeriesTaken holder) = not_agreed "series-taken" holder

-- a message is applied, with the five counts of its effect
abbrev pub applied : List ℕ → ℕ → Effect → Data
applied series n e = answered "applied" (numbered series n (
    ("replaced", count e.replaced) ∷ ("updated", count e.updated)
    ∷ ("deleted", count e.deleted) ∷ ("unknown", count e.unknown)
    ∷ ("ignored", count e.ignored) ∷ []))

-- the answer to a delivery
abbrev pub delivered : DeliveryAnswer → Data
delivered (delivery.Malformed row) = malformed row
delivered delivery.Unnumbered = refused "unnumbered" []
delivered delivery.UnknownSeries = refused "unknown-series" []
delivered (delivery.BeforeFirst series n first) = before_first series n first
delivered (delivery.Waived series n) = number_refused "waived" series n
delivered (delivery.OtherContents series n) = number_refused "other-contents" series n
delivered (delivery.Applied series n e) = applied series n e
delivered (delivery.Held series n next) =
    answered "held" (numbered series n (("waiting_for", count next) ∷ []))

module _ (series : List ℕ) (n : ℕ) where
  -- the answer to a waiver of that number
  abbrev pub waiver_answer : WaiveAnswer → Data
  waiver_answer waiver.UnknownSeries = refused "unknown-series" []
  waiver_answer (waiver.BeforeFirst first) = before_first series n first
  waiver_answer waiver.Had = number_refused "had" series n
  waiver_answer waiver.Waived = answered "waived" (numbered series n [])

-- numbers that have nothing, by the first and the last of them
abbrev pub missing : ℕ × ℕ → Data
missing range = list_of count (range.0 ∷ range.1 ∷ [])

-- which numbers of a series have something
abbrev pub gaps : GapReport → Data
gaps g = answered "gaps" (
    ("series", string g.series) ∷ ("first", count g.first)
    ∷ ("next", count g.next) ∷ ("greatest", or_null count g.greatest)
    ∷ ("held", count g.held) ∷ ("missing", list_of missing g.missing) ∷ [])

-- the JSON of an answer: an amount is a text with three decimals, a day a text YYYYMMDD, what is
-- absent null
abbrev pub answer_json : Answer → Data
answer_json (Agreement name first a) = agreement name first a
answer_json (Delivery a) = delivered a
answer_json (Waiver series n a) = waiver_answer series n a
answer_json (Price isbn offers) = price isbn offers
answer_json (Choice isbn c) = choice isbn c
answer_json (Calendar isbn offers) = calendar isbn offers
answer_json BadRange = refused "bad-range" []
answer_json (Gaps report) = gaps report
answer_json (Catalogue series m) = catalogue series m
answer_json UnknownSeries = refused "unknown-series" []
answer_json (Malformed row) = malformed row
