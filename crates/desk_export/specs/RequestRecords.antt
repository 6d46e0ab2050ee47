-- Requests that change a desk, as records of a batch.
use Rattle.std.specs.Prelude.{ℕ, List, [], ◌∷◌, ◌++◌, codes, decimal}
use Rattle.csv_records.specs.RecordTexts.{records_text}
use Rattle.onix_records.specs.Fields.{party_fields}
use Rattle.onix_records.specs.declared.agreements.Agreement.{Agreement}
use Rattle.series_rules.specs.declared.requests.Request.{Request}
use Rattle.series_rules.specs.declared.requests.Request.TheVariants.{Agree, Deliver, Waive}

-- the record of an agreement
abbrev pub agree_record : Agreement → List (List ℕ)
agree_record a =
    codes "Agree" ∷ a.name ∷ a.sender.id_type ∷ a.sender.id_value
    ∷ (party_fields a.addressee ++ decimal a.first ∷ [])

-- the record of a waiver
abbrev pub waive_record : List ℕ → ℕ → List (List ℕ)
waive_record series n = codes "Waive" ∷ series ∷ decimal n ∷ []

-- the records of a request that is no question
abbrev pub request_records : Request → List (List (List ℕ))
request_records (Agree a) = agree_record a ∷ []
request_records (Deliver records) = records
request_records (Waive series n) = waive_record series n ∷ []
request_records _ = []

-- the text of a request
abbrev pub request_text : Request → List ℕ
request_text r = records_text (request_records r)
