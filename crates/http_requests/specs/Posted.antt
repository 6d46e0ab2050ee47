-- The body of a POST in the bytes behind the head.
use Rattle.std.specs.Prelude.{ℕ, List, length, take, nat_lt, if◌then◌else◌, Result, Ok, Err, codes}
use Rattle.std.specs.Str.{is_utf8}
use Rattle.httparse.specs.Grammar.{RequestHead}
use Rattle.csv_records.specs.RecordTexts.{records_of}
use Rattle.http_requests.specs.declared.refusal.Refusal.{Refusal}
use Rattle.http_requests.specs.declared.refusal.Refusal.TheVariants as refusal
use Rattle.http_requests.specs.Fields.{at_most_one, field_values, size_by}
use Rattle.http_requests.specs.Steps.{◌>>=◌}

-- the body of so many bytes. What follows it is ignored
abbrev pub body_of : ℕ → List ℕ → Result (List ℕ) Refusal
body_of size rest = if nat_lt (length rest) size then Err refusal.ShortBody else Ok (take size rest)

-- the records of a body
unfoldable pub records_in : List ℕ → Result (List (List (List ℕ))) Refusal
records_in body = if is_utf8 body then Ok (records_of body) else Err refusal.NotUtf8

-- how many bytes the body of a POST has
unfoldable pub size_asked : RequestHead → Result ℕ Refusal
size_asked h = do
  value ← at_most_one refusal.BadLength (field_values (codes "content-length") h)
  size_by value

-- so many bytes, or none behind a refusal
abbrev pub size_or_none : Result ℕ Refusal → ℕ
size_or_none (Ok size) = size
size_or_none (Err why) = 0

-- how many bytes behind the head are looked at: those of the body, and none where the head refuses
-- it
unfoldable pub most_posted : RequestHead → ℕ
most_posted h = size_or_none (size_asked h)

-- the records of the body of so many bytes
unfoldable pub records_behind : ℕ → List ℕ → Result (List (List (List ℕ))) Refusal
records_behind size rest = do
  body ← body_of size rest
  records_in body

-- the records that a POST delivers, by its head and the bytes after it
unfoldable pub records_posted : RequestHead → List ℕ → Result (List (List (List ℕ))) Refusal
records_posted h rest = do
  size ← size_asked h
  records_behind size rest
