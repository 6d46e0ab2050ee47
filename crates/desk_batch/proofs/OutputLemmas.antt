-- What a batch comes to after a list of requests.
use Rattle.std.proofs.Common.{◌≡◌, ◌≤◌, ◌+◌, ◌++◌, ◌∙◌, ℕ, suc, List, [], Result, Ok, Err, ap, sym, subst, arith, append-nil, length, take}
use Rattle.std.proofs.Math.Seq.{take-length}
use Rattle.price_rules.specs.declared.precedence.Rule.{Rule}
use Rattle.series_rules.specs.Answers.{followed_by}
use Rattle.series_rules.specs.Steps.{Leads, Step}
use Rattle.series_rules.specs.Views.{DeskKind, View}
use Rattle.series_rules.specs.declared.requests.Request.{Request}
use Rattle.desk_texts.specs.Requests.{HasRecords, RecordsFit, requests_of}
use Rattle.desk_batch.specs.Batch.{BatchGives, RunsBatch}
use Rattle.desk_batch.specs.Lists.{IsAsStopped, IsWritten, output, refusals}
use Rattle.desk_batch.specs.Outputs.{AreAnswered, AreAnsweredUpTo, BatchComesTo, BatchesComeTo}
use Rattle.desk_batch.specs.Talks.{Stop, Talk, Talks, cut, ended, failed, refusals_in, unsaid}
use Rattle.desk_batch.specs.declared.batch.BatchFault.{BatchFault}
use Rattle.desk_batch.specs.declared.batch.BatchFault.TheVariants as fault
use Rattle.desk_batch.proofs.ListLemmas.{tells}

module _ {k : DeskKind} (rules : List Rule) (asked : List Step → Type 0) (old new : View k) (leads : (steps : List Step) → asked steps → Leads rules steps old new)
    (L : List Request) (stood : old.stands_for L) (sound : new.sound) (text : List ℕ) (written : List ℕ → Type 0) where
  -- of a talk of the requests of the text: what is written, by why it stopped, and what the desk
  -- stands for
  module _ (gives : List Step → Stop → Type 0) (talks : Talks asked written (requests_of text) gives) where
    abbrev rs : List Request
    rs = requests_of text

    told : (w : IsWritten rules L rs talks.steps talks.text) × IsAsStopped rules L rs talks.steps talks.stop w
    told = tells rules talks.talk L ((leads talks.steps talks.were_asked).follows L stood sound).answers

    stands : new.stands_for (followed_by L (take told.0.n rs))
    stands = subst new.stands_for told.0.answered ((leads talks.steps talks.were_asked).follows L stood sound).stands

    stopped : (stop : Stop) → talks.stop ≡ stop → IsAsStopped rules L rs talks.steps stop told.0
    stopped stop is = subst (λ s. IsAsStopped rules L rs talks.steps s told.0) is told.1

    -- without a part of an answer
    whole : told.0.part ≡ [] → written (output rules L (take told.0.m rs))
    whole none = subst written (told.0.text_is ∙ ap (λ p. output rules L (take told.0.m rs) ++ p) none ∙ append-nil (output rules L (take told.0.m rs))) talks.was_written

    up_to : (done : ℕ) → told.0.n ≡ suc told.0.m → done ≡ told.0.n → AreAnsweredUpTo rules L rs written new.stands_for done told.0.part
    up_to done one is = (
      told.0.m,
      told.0.rest,
      is ∙ one,
      told.0.last_is ∙ ap (λ n. output rules L (take n rs)) (sym is),
      subst written told.0.text_is talks.was_written,
      subst (λ n. new.stands_for (followed_by L (take n rs))) (sym is) stands,
    )

  ends : (result : Result ℕ BatchFault) → RunsBatch asked written text result → BatchComesTo rules L text written new.stands_for result
  ends (Ok n) (has, talks) =
      let it = stopped (BatchGives (Ok n)) talks ended talks.result_is.0 in
      let w = (told (BatchGives (Ok n)) talks).0 in
      let all : (i : ℕ) → i ≡ length (requests_of text) → take i (requests_of text) ≡ requests_of text = λ i is. ap (λ i. take i (requests_of text)) is ∙ take-length (requests_of text) in (
        has,
        talks.result_is.1 ∙ it.4,
        subst (λ xs. written (output rules L xs)) (all w.m (it.1 ∙ it.0)) (whole (BatchGives (Ok n)) talks it.2),
        subst (λ xs. new.stands_for (followed_by L xs)) (all w.n it.0) (stands (BatchGives (Ok n)) talks),
      )
  ends (Err (fault.Records f)) (fit, none, nothing) = (fit, nothing, ((leads [] none).follows L stood sound).stands)
  ends (Err fault.Read) (none, nothing) = (nothing, ((leads [] none).follows L stood sound).stands)
  ends (Err (fault.Store done f)) (has, talks) =
      let gives = BatchGives (Err (fault.Store done f)) in
      let it = stopped gives talks (failed f) talks.result_is.0 in
      let w = (told gives talks).0 in
      let long : length talks.steps ≡ done + 1 = talks.result_is.1 in
      let steps : length talks.steps ≡ suc w.n = it.2 in
      let few : suc w.n ≤ length (requests_of text) = it.3 in
      let is : w.n ≡ done = omega (arith, long, steps) in (
        has,
        omega (arith, few, is),
        (
          subst (λ n. written (output rules L (take n (requests_of text)))) (it.0 ∙ is) (whole gives talks it.1),
          subst (λ n. new.stands_for (followed_by L (take n (requests_of text)))) is (stands gives talks),
        ),
      )
  ends (Err (fault.Write done)) (has, talks) =
      let gives = BatchGives (Err (fault.Write done)) in
      let it = stopped gives talks cut talks.result_is.0 in
      (has, (told gives talks).0.part, up_to gives talks done it.0 (sym talks.result_is.1 ∙ it.1))
  ends (Err (fault.Memory done)) (has, talks) =
      let gives = BatchGives (Err (fault.Memory done)) in
      let it = stopped gives talks unsaid talks.result_is.0 in
      (has, subst (AreAnsweredUpTo rules L (requests_of text) written new.stands_for done) it.3 (up_to gives talks done it.0 (sym talks.result_is.1 ∙ it.1)))

pub batches_end : {k : DeskKind} (rules : List Rule) (asked : List Step → Type 0) (written : List ℕ → Type 0) (old new : View k) → ((steps : List Step) → asked steps → Leads rules steps old new) → BatchesComeTo rules asked written old new
batches_end rules asked written old new leads = λ text result ran L stood sound. ends rules asked old new leads L stood sound text written result ran
