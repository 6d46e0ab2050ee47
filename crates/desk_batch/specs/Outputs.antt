-- What a batch comes to after a list of requests.
use Rattle.std.specs.Prelude.{◌≡◌, ◌<◌, ◌++◌, ℕ, suc, List, [], Result, Ok, Err, length, take}
use Rattle.price_rules.specs.declared.precedence.Rule.{Rule}
use Rattle.series_rules.specs.Answers.{followed_by}
use Rattle.series_rules.specs.Steps.{Step}
use Rattle.series_rules.specs.Views.{DeskKind, View}
use Rattle.series_rules.specs.declared.requests.Request.{Request}
use Rattle.desk_texts.specs.Requests.{HasRecords, RecordsFit, requests_of}
use Rattle.desk_batch.specs.Batch.{RunsBatch}
use Rattle.desk_batch.specs.Lists.{output, refusals}
use Rattle.desk_batch.specs.declared.batch.BatchFault.{BatchFault}
use Rattle.desk_batch.specs.declared.batch.BatchFault.TheVariants as fault

-- Of a batch of requests over a desk that stood for L. Written: this text was written. Stands: the
-- desk stands for this list
module _ (rules : List Rule) (L rs : List Request) (written : List ℕ → Type 0)
    (stands : List Request → Type 0) where
  -- the first `done` requests were answered, and all their answers are written
  abbrev pub AreAnswered : ℕ → Type 0
  AreAnswered done = written (output rules L (take done rs)) × stands (followed_by L (take done rs))

  -- the first `done` requests were answered, and of the last of their answers only this part
  -- is written
  abbrev pub AreAnsweredUpTo : ℕ → List ℕ → Type 0
  AreAnsweredUpTo done part =
      (before : ℕ) × (rest : List ℕ) × (done ≡ suc before)
      × (output rules L (take before rs) ++ (part ++ rest) ≡ output rules L (take done rs))
      × written (output rules L (take before rs) ++ part) × stands (followed_by L (take done rs))

-- How a batch of that text ends: all its requests are answered as defined, and their answers
-- written; or those before the one that had a fault. A text that is not read, or has no records, is
-- answered with nothing.
module _ (rules : List Rule) (L : List Request) (text : List ℕ) (written : List ℕ → Type 0)
    (stands : List Request → Type 0) where
  abbrev pub BatchComesTo : Result ℕ BatchFault → Type 0
  BatchComesTo (Ok n) =
      HasRecords text × (n ≡ refusals rules L (requests_of text))
      × written (output rules L (requests_of text)) × stands (followed_by L (requests_of text))
  BatchComesTo (Err (fault.Records f)) = RecordsFit text f × written [] × stands L
  BatchComesTo (Err fault.Read) = written [] × stands L
  BatchComesTo (Err (fault.Store done f)) =
      HasRecords text × (done < length (requests_of text))
      × AreAnswered rules L (requests_of text) written stands done
  BatchComesTo (Err (fault.Write done)) =
      HasRecords text
      × (part : List ℕ) × AreAnsweredUpTo rules L (requests_of text) written stands done part
  BatchComesTo (Err (fault.Memory done)) =
      HasRecords text × AreAnsweredUpTo rules L (requests_of text) written stands done []

-- whatever batch was run, it ended so after each list for which the desk stood. Asked: a desk was
-- asked these steps
abbrev pub BatchesComeTo : {k : DeskKind} → List Rule → (List Step → Type 0) → (List ℕ → Type 0)
    → (old new : View k) → Type 0
BatchesComeTo rules asked written old new =
    (text : List ℕ) (result : Result ℕ BatchFault) → RunsBatch asked written text result
    → (L : List Request) → old.stands_for L → new.sound
    → BatchComesTo rules L text written new.stands_for result
