-- The fields of a head, by name, and what they say of the body.
use Rattle.std.specs.Prelude.{ℕ, Bool, ◌&&◌, List, [], ◌∷◌, length, map, nat_eq, nat_lt, if◌then◌else◌, Option, Some, None, Result, Ok, Err}
use Rattle.std.specs.List.{list_all}
use Rattle.std.specs.Char.{is_ascii_digit, to_ascii_lowercase}
use Rattle.std.specs.Cmp.Lexicographic.{pointwise}
use Rattle.std.specs.Str.Parse.{digits_value}
use Rattle.httparse.specs.Grammar.{RequestHead}
use Rattle.httparse.specs.Spans.{name_and_value}
use Rattle.csv_records.specs.RecordTexts.{limit}
use Rattle.http_requests.specs.declared.refusal.Refusal.{Refusal}
use Rattle.http_requests.specs.declared.refusal.Refusal.TheVariants as refusal

-- the names are the same but for the case of ASCII letters
abbrev pub same_name : List ℕ → List ℕ → Bool
same_name a b = pointwise nat_eq (map to_ascii_lowercase a) (map to_ascii_lowercase b)

-- the values of the pairs whose names are such, in order
abbrev pub values_where : (List ℕ → Bool) → List (List ℕ × List ℕ) → List (List ℕ)
values_where such [] = []
values_where such (pair ∷ pairs) =
    if such pair.0 then pair.1 ∷ values_where such pairs else values_where such pairs

-- the only one of these values, if there is one. Several are refused so
abbrev pub at_most_one : Refusal → List (List ℕ) → Result (Option (List ℕ)) Refusal
at_most_one why [] = Ok None
at_most_one why (value ∷ []) = Ok (Some value)
at_most_one why (value ∷ other ∷ more) = Err why

-- the values of the fields of this name in a head, without white space at their ends
unfoldable pub field_values : List ℕ → RequestHead → List (List ℕ)
field_values name h =
    values_where (λ other. same_name other name) (map name_and_value h.fields)

-- one or more digits
abbrev pub is_numeral : List ℕ → Bool
is_numeral text = nat_lt 0 (length text) && list_all is_ascii_digit text

-- how many bytes a body has whose length is written so. It has no more than a text of records may
-- have
abbrev pub size_written : List ℕ → Result ℕ Refusal
size_written text =
    if is_numeral text
    then (if nat_lt limit (digits_value 10 text) then Err refusal.TooLarge
    else Ok (digits_value 10 text))
    else Err refusal.BadLength

-- how many bytes the body of a POST has, by the value of its Content-Length
abbrev pub size_by : Option (List ℕ) → Result ℕ Refusal
size_by None = Err refusal.LengthRequired
size_by (Some value) = size_written value
