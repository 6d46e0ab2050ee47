-- The records and the text of an answer.
use Prim.Native.String.{String}
use Rattle.std.specs.Prelude.{ℕ, Bool, List, [], ◌∷◌, codes}
use Rattle.std.specs.Fmt.{decimal}
use Rattle.std.specs.Str.{bytes_eq}
use Rattle.csv_records.specs.RecordTexts.{records_text}
use Rattle.onix_records.specs.declared.effects.Effect.{Effect}
use Rattle.desk_texts.specs.CatalogueText.{catalogue_records}
use Rattle.desk_texts.specs.GapText.{gap_records, labelled}
use Rattle.desk_texts.specs.PriceText.{calendar_records, choice_fields, price_records}
use Rattle.series_rules.specs.declared.answers.AgreeAnswer.{AgreeAnswer}
use Rattle.series_rules.specs.declared.answers.AgreeAnswer.TheVariants.{Agreed, NameTaken, SeriesTaken}
use Rattle.series_rules.specs.declared.answers.DeliveryAnswer.{DeliveryAnswer}
use Rattle.series_rules.specs.declared.answers.DeliveryAnswer.TheVariants as delivery
use Rattle.series_rules.specs.declared.answers.WaiveAnswer.{WaiveAnswer}
use Rattle.series_rules.specs.declared.answers.WaiveAnswer.TheVariants as waiver
use Rattle.series_rules.specs.declared.answers.Answer.{Answer}
use Rattle.series_rules.specs.declared.answers.Answer.TheVariants.{Agreement, BadRange, Calendar, Catalogue, Choice, Delivery, Gaps, Malformed, Price, UnknownSeries, Waiver}
use Rattle.desk_texts.specs.Records.{Fields, Records}

-- a refusal for that reason, with these fields behind it
abbrev pub refused : String → Fields → Fields
refused reason fields = codes "refused" ∷ codes reason ∷ fields

-- what is no message or no request, from this row on
abbrev pub malformed_fields : ℕ → Fields
malformed_fields row = refused "malformed" (decimal row ∷ [])

-- the answer about a series that is not agreed
abbrev pub unknown_fields : Fields
unknown_fields = refused "unknown-series" []

-- the answer about a number below the first of its series
abbrev pub before_first_fields : List ℕ → ℕ → ℕ → Fields
before_first_fields series n first =
    refused "before-first" (series ∷ decimal n ∷ decimal first ∷ [])

module _ (name : List ℕ) (first : ℕ) where
  -- the record of the answer to an agreement of that name and first number
  abbrev pub agree_fields : AgreeAnswer → Fields
  agree_fields Agreed = codes "agreed" ∷ name ∷ decimal first ∷ []
  agree_fields NameTaken = refused "name-taken" (name ∷ [])
  agree_fields (SeriesTaken holder) = refused "series-taken" (holder ∷ [])

-- the five counts of an effect, each behind its name
abbrev pub effect_fields : Effect → Fields
effect_fields e =
    labelled "replaced=" e.replaced
    ∷ labelled "updated=" e.updated
    ∷ labelled "deleted=" e.deleted
    ∷ labelled "unknown=" e.unknown
    ∷ labelled "ignored=" e.ignored
    ∷ []

-- the record of the answer to a delivery
abbrev pub delivery_fields : DeliveryAnswer → Fields
delivery_fields (delivery.Malformed row) = malformed_fields row
delivery_fields delivery.Unnumbered = refused "unnumbered" []
delivery_fields delivery.UnknownSeries = unknown_fields
delivery_fields (delivery.BeforeFirst series n first) = before_first_fields series n first
delivery_fields (delivery.Waived series n) = refused "waived" (series ∷ decimal n ∷ [])
delivery_fields (delivery.OtherContents series n) =
    refused "other-contents" (series ∷ decimal n ∷ [])
delivery_fields (delivery.Applied series n e) =
    codes "applied" ∷ series ∷ decimal n ∷ effect_fields e
delivery_fields (delivery.Held series n next) =
    codes "held" ∷ series ∷ decimal n ∷ labelled "waiting-for=" next ∷ []

module _ (series : List ℕ) (n : ℕ) where
  -- the record of the answer to a waiver of that number
  abbrev pub waiver_fields : WaiveAnswer → Fields
  waiver_fields waiver.UnknownSeries = unknown_fields
  waiver_fields (waiver.BeforeFirst first) = before_first_fields series n first
  waiver_fields waiver.Had = refused "had" (series ∷ decimal n ∷ [])
  waiver_fields waiver.Waived = codes "waived" ∷ series ∷ decimal n ∷ []

-- the records of an answer
abbrev pub answer_records : Answer → Records
answer_records (Agreement name first a) = agree_fields name first a ∷ []
answer_records (Delivery a) = delivery_fields a ∷ []
answer_records (Waiver series n a) = waiver_fields series n a ∷ []
answer_records (Price isbn offers) = price_records isbn offers
answer_records (Choice isbn c) = choice_fields isbn c ∷ []
answer_records (Calendar isbn offers) = calendar_records isbn offers
answer_records BadRange = refused "bad-range" [] ∷ []
answer_records (Gaps report) = gap_records report
answer_records (Catalogue series m) = catalogue_records series m
answer_records UnknownSeries = unknown_fields ∷ []
answer_records (Malformed row) = malformed_fields row ∷ []

-- the text of an answer
unfoldable pub text_of : Answer → List ℕ
text_of a = records_text (answer_records a)

-- the first field of the first record
abbrev pub first_field : Records → List ℕ
first_field ((field ∷ fields) ∷ rows) = field
first_field _ = []

-- an answer is a refusal where its first field is `refused`
unfoldable pub is_refused : Answer → Bool
is_refused a = bytes_eq (first_field (answer_records a)) (codes "refused")
