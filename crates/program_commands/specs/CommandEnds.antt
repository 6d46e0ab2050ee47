-- How each command over a desk ends: what was asked of the desk, and what was written.
use Rattle.std.specs.Prelude.{◌≡◌, ◌≤◌, ◌⊎◌, ◌++◌, ◌∷◌, ℕ, All, Bool, List, [], Option, Some, None, Result, Ok, Err, length, map, nat_eq, nat_lt, if◌then◌else◌}
use Rattle.std.specs.List.{flat_map}
use Rattle.csv_records.specs.Streams.{IsTold}
use Rattle.program_files.specs.Holdings.{Holdings}
use Rattle.series_rules.specs.Steps.{Step}
use Rattle.series_rules.specs.declared.answers.Answer.TheVariants.{UnknownSeries}
use Rattle.series_rules.specs.declared.requests.Request.{Request}
use Rattle.series_rules.specs.declared.requests.Request.TheVariants.{AskGaps}
use Rattle.desk_texts.specs.AnswerText.{text_of}
use Rattle.desk_batch.specs.Batch.{BatchGives, RunsBatch}
use Rattle.desk_texts.specs.Requests.{HasRecords}
use Rattle.desk_batch.specs.Talks.{Talks}
use Rattle.desk_batch.specs.declared.batch.BatchFault.{BatchFault}
use Rattle.desk_http.specs.Writing.{WritesFront}
use Rattle.program_commands.specs.Connections.{Connection, EndsServing, IsServed}
use Rattle.program_commands.specs.Deliveries.{AreTexts, delivery_of}
use Rattle.program_clients.specs.Printing.{PrintEnds}
use Rattle.program_commands.specs.Serving.{listening_line}

-- the status of requests that were asked: 0, or 1 where an answer is a refusal, or 3 before the end
abbrev pub batch_status : Result ℕ BatchFault → ℕ
batch_status (Ok refused) = if nat_eq refused 0 then 0 else 1
batch_status (Err f) = 3

-- at most so many connections were served, and the desk was asked just what was asked in these, in
-- their order. Batches: whether these are taken
abbrev pub ConnectionsEnd : (List Step → Type 0) → Bool → ℕ → List Connection → Type 0
ConnectionsEnd asked batches count served =
    (length served ≤ count) × All (IsServed batches) served
    × asked (flat_map (λ c. c.steps) served)

-- Asked: the desk was asked these steps. Written: these bytes were written. In what follows, told
-- is what the input tells of its bytes
module _ (asked : List Step → Type 0) (written : List ℕ → Type 0) where
  -- these requests were asked, and this is the status of what that gave
  abbrev pub RequestsEnd : List Request → ℕ → Type 0
  RequestsEnd rs status =
      (result : Result ℕ BatchFault) × Talks asked written rs (BatchGives result)
      × (status ≡ batch_status result)

  -- `batch`: there is a text, the input's if its bytes are known, of which a batch ended so
  abbrev pub BatchEnds : Option (List ℕ) → ℕ → Type 0
  BatchEnds told status =
      (text : List ℕ) × (result : Result ℕ BatchFault) × IsTold told text
      × RunsBatch asked written text result × (status ≡ batch_status result)

  -- `deliver`: the first of the files that are named have texts with records, whose deliveries were
  -- asked; where there are other files the status is 3. Holds: what names hold
  abbrev pub DeliverEnds : Holdings → Option (List ℕ) → List (List ℕ) → ℕ → Type 0
  DeliverEnds holds told names status =
      (texts : List (List ℕ)) × AreTexts holds told names texts × All HasRecords texts
      × (own : ℕ) × RequestsEnd (map delivery_of texts) own
      × (status ≡ (if nat_lt (length texts) (length names) then 3 else own))

  -- `gaps`: the one question was asked; or the name can be no series's, and that it is unknown was
  -- written with 1, or a first part of that with 3
  abbrev pub GapsEnds : Option (List ℕ) → ℕ → Type 0
  GapsEnds (Some series) status = RequestsEnd (AskGaps series ∷ []) status
  GapsEnds None status = asked [] × PrintEnds 1 written (text_of UnknownSeries) status

  -- serving so many clients, and writing the line of each
  abbrev pub ConnectionsServed : Bool → ℕ → ℕ → Type 0
  ConnectionsServed batches count status =
      (served : List Connection) × ConnectionsEnd asked batches count served
      × EndsServing written count served status

  -- `serve` of so many connections at that port, and at a socket where batches are taken: their
  -- lines are written behind the one of the port; or a first part of that is, with 3, and none was
  -- served
  abbrev pub ServeEnds : Bool → ℕ → ℕ → ℕ → Type 0
  ServeEnds batches port count status =
      (served : List Connection) × ConnectionsEnd asked batches count served
      × (((status ≡ 3) × (served ≡ []) × WritesFront written (listening_line port))
      ⊎ EndsServing (λ lines. written (listening_line port ++ lines)) count served status)
