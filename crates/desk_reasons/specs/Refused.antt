-- Which field of a record the desk refuses first.
use Rattle.std.specs.Prelude.{◌≡◌, ◌<◌, ◌==◌, ◌++◌, ◌∷◌, [], ℕ, Bool, true, false, suc, Option}
use Rattle.std.specs.Prelude.{Some, None, length, take, drop, if◌then◌else◌}
use Rattle.std.specs.Option.{is_some, option_map_or}
use Rattle.onix_records.specs.Message.{bad_row, message_of}
use Rattle.series_rules.specs.declared.requests.Request.{Request}
use Rattle.series_rules.specs.declared.requests.Request.TheVariants.{Deliver, Malformed}
use Rattle.desk_texts.specs.RequestRows.{request_of}
use Rattle.desk_texts.specs.Records.{Fields, Records}

-- the row at which records stop being a message; none where they are one
abbrev pub row_of_message : Records → Option ℕ
row_of_message records =
    if is_some (message_of records) then None else Some (bad_row records)

-- the row at which the desk refuses a request as malformed; none where it does not
abbrev pub malformed_row : Request → Option ℕ
malformed_row (Malformed row) = Some row
malformed_row (Deliver records) = row_of_message records
malformed_row _ = None

-- whether it refuses a piece at the last of its records
abbrev pub ends_malformed : Records → Bool
ends_malformed piece =
    option_map_or (λ row. row == length piece) (malformed_row (request_of piece)) false

-- whether it does so where that record, behind these, has the fields of one record up to a place,
-- and those of a sample after it
abbrev pub is_refused_at : Records → Fields → Fields → ℕ → Bool
is_refused_at before given sample place =
    ends_malformed (before ++ (take (suc place) given ++ drop (suc place) sample) ∷ [])

-- this place is the first for which it does; there is none where it takes all fields
abbrev pub IsFirst : Records → Fields → Fields → Option ℕ → Type 0
IsFirst before given sample None =
    (place : ℕ) → place < length given → is_refused_at before given sample place ≡ false
IsFirst before given sample (Some first) =
    (is_refused_at before given sample first ≡ true)
    × ((place : ℕ) → place < first → is_refused_at before given sample place ≡ false)
