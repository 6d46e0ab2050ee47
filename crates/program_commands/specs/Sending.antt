-- How the command `batch` ends that sends its batch to an open desk, whose answers it writes.
use Prim.Native.String.{String}
use Rattle.std.specs.Prelude.{◌≡◌, ◌-◌, ◌++◌, ◌∷◌, ◌⊎◌, ℕ, Bool, List, [], Option, Result, Ok, Err, length, if◌then◌else◌}
use Rattle.std.specs.List.{list_any}
use Rattle.csv_records.specs.RecordTexts.{records_of}
use Rattle.csv_records.specs.Streams.{IsTold}
use Rattle.desk_texts.specs.Records.{Records, begins_with}
use Rattle.desk_texts.specs.Requests.{HasRecords, requests_of}
use Rattle.program_clients.specs.declared.fault.Fault.{Fault}

-- the names that begin the answer to a question
abbrev pub report_names : List String
report_names = "price" ∷ "choice" ∷ "calendar" ∷ "gaps" ∷ "catalogue" ∷ []

-- the names that begin an answer
abbrev pub answer_names : List String
answer_names = "agreed" ∷ "applied" ∷ "held" ∷ "waived" ∷ "refused" ∷ report_names

-- how many of so many requests have no answer among these records
abbrev pub unanswered : ℕ → Records → ℕ
unanswered asked [] = asked
unanswered asked (row ∷ rows) =
    unanswered (if begins_with answer_names row then asked - 1 else asked) rows

-- what was written is a first part of what comes of the desk
abbrev pub WritesCame : Option (List ℕ) → (List ℕ → Type 0) → Type 0
WritesCame came written = (some rest : List ℕ) × IsTold came (some ++ rest) × written some

-- how taking the answers to so many requests can end: with each there among those that came, which
-- were written, and whether one is a refusal; or with a first part of what came. Came: what comes
-- of the desk, where that is known. Written: these bytes were written
abbrev pub TakesAnswers : ℕ → Option (List ℕ) → (List ℕ → Type 0) → Result Bool Fault
    → Type 0
TakesAnswers asked came written (Ok refused) =
    (answers : List ℕ) × IsTold came answers × (unanswered asked (records_of answers) ≡ 0)
    × (refused ≡ list_any (begins_with ("refused" ∷ [])) (records_of answers))
    × written answers
TakesAnswers asked came written (Err f) = WritesCame came written

-- the status of a batch that was sent: whether one answer is a refusal, or a fault
abbrev pub status_of : Result Bool Fault → ℕ
status_of (Ok refused) = if refused then 1 else 0
status_of (Err f) = 3

-- how sending the batch of a text can end: each request has an answer in what came, which was
-- written; or a first part of what came was written; or nothing was sent or written. Sent: the desk
-- was sent that text, once, and this comes of it. Unsent: nothing was sent
abbrev pub SendFits : {F : Type 0} → List ℕ → (Option (List ℕ) → Type 0) → Type 0
    → (List ℕ → Type 0) → Result Bool F → Type 0
SendFits text sent unsent written (Ok refused) =
    HasRecords text × (came : Option (List ℕ)) × sent came
    × TakesAnswers (length (requests_of text)) came written (Ok refused)
SendFits text sent unsent written (Err f) =
    ((came : Option (List ℕ)) × sent came × WritesCame came written) ⊎ (unsent × written [])

-- how the command can end with this status: the text of the input was sent, and each request in it
-- has an answer in what came, which was written, with 0, or 1 for a refusal; or a fault ended it,
-- with 3, behind that or before anything was sent. Told: what the input tells of its bytes
abbrev pub SendEnds : Option (List ℕ) → (List ℕ → Option (List ℕ) → Type 0) → Type 0
    → (List ℕ → Type 0) → ℕ → Type 0
SendEnds told sent unsent written status =
    (text : List ℕ) × IsTold told text × (result : Result Bool Fault)
    × SendFits text (sent text) unsent written result × (status ≡ status_of result)
