-- How a talk ends a command.
use Rattle.std.proofs.Common.{◌≡◌, ◌∙◌, ◌+◌, ℕ, Bool, true, false, List, [], Result, Ok, Err, refl, sym, ap, arith, length, nat_eq}
use Rattle.std.specs.Prelude.{if◌then◌else◌}
use Rattle.series_rules.specs.Steps.{Step}
use Rattle.series_rules.specs.declared.requests.Request.{Request}
use Rattle.onix_records.specs.declared.faults.StoreFault.{StoreFault}
use Rattle.desk_batch.specs.Batch.{BatchGives, RequestGives, RunsBatch}
use Rattle.desk_texts.specs.Requests.{requests_of}
use Rattle.desk_batch.specs.Talks.{Stop, Talk, Talks, cut, ended, failed, fault, next, refusals_in, unsaid}
use Rattle.desk_batch.specs.declared.batch.BatchFault.{BatchFault}
use Rattle.desk_batch.specs.declared.batch.BatchFault.TheVariants as batch_fault
use Rattle.desk_batch.specs.declared.batch.RequestFault.{RequestFault}
use Rattle.desk_batch.specs.declared.batch.RequestFault.TheVariants as request_fault
use Rattle.program_commands.specs.CommandEnds.{RequestsEnd, batch_status}

-- the status of a talk by how it stopped
abbrev pub talk_status : List Step → Stop → ℕ
talk_status steps ended = if nat_eq (refusals_in steps) 0 then 0 else 1
talk_status steps _ = 3

-- how many requests were answered before the fault
answered_before : {rs : List Request} {steps : List Step} {text : List ℕ} {f : StoreFault} → Talk rs steps text (failed f) → (done : ℕ) × (length steps ≡ done + 1)
answered_before (next talk) = let more = answered_before talk in let counted = more.1 in (more.0 + 1, omega (arith, counted))
answered_before fault = (0, refl)

-- what a talk gives, and its status
gives_of : {rs : List Request} {steps : List Step} {text : List ℕ} (stop : Stop) → Talk rs steps text stop
    → (result : Result ℕ BatchFault) × BatchGives result steps stop × (batch_status result ≡ talk_status steps stop)
gives_of {steps = steps} ended talk = (Ok (refusals_in steps), (refl, refl), refl)
gives_of (failed f) talk = let before = answered_before talk in (Err (batch_fault.Store before.0 f), (refl, before.1), refl)
gives_of {steps = steps} cut talk = (Err (batch_fault.Write (length steps)), (refl, refl), refl)
gives_of {steps = steps} unsaid talk = (Err (batch_fault.Memory (length steps)), (refl, refl), refl)

-- the same talk, of which something else is said
pub talks_as : (asked asks : List Step → Type 0) (written writes : List ℕ → Type 0) (rs : List Request) (gives given : List Step → Stop → Type 0)
    → ((steps : List Step) → asked steps → asks steps) → ((text : List ℕ) → written text → writes text) → ((steps : List Step) (stop : Stop) → gives steps stop → given steps stop)
    → Talks asked written rs gives → Talks asks writes rs given
talks_as asked asks written writes rs gives given f g h talks = record {
  steps = talks.steps;
  text = talks.text;
  stop = talks.stop;
  talk = talks.talk;
  were_asked = f talks.steps talks.were_asked;
  was_written = g talks.text talks.was_written;
  result_is = h talks.steps talks.stop talks.result_is;
}

-- the same batch, of which something else is said of what was asked and of what was written
pub batch_as : (asked asks : List Step → Type 0) (written writes : List ℕ → Type 0) → ((steps : List Step) → asked steps → asks steps) → ((text : List ℕ) → written text → writes text) → (text : List ℕ) (result : Result ℕ BatchFault)
    → RunsBatch asked written text result → RunsBatch asks writes text result
batch_as asked asks written writes f g text (Ok n) ran = (ran.0, talks_as asked asks written writes (requests_of text) _ _ f g (λ steps stop gives. gives) ran.1)
batch_as asked asks written writes f g text (Err (batch_fault.Records e)) ran = (ran.0, f [] ran.1, g [] ran.2)
batch_as asked asks written writes f g text (Err batch_fault.Read) ran = (f [] ran.0, g [] ran.1)
batch_as asked asks written writes f g text (Err (batch_fault.Store done e)) ran = (ran.0, talks_as asked asks written writes (requests_of text) _ _ f g (λ steps stop gives. gives) ran.1)
batch_as asked asks written writes f g text (Err (batch_fault.Write done)) ran = (ran.0, talks_as asked asks written writes (requests_of text) _ _ f g (λ steps stop gives. gives) ran.1)
batch_as asked asks written writes f g text (Err (batch_fault.Memory done)) ran = (ran.0, talks_as asked asks written writes (requests_of text) _ _ f g (λ steps stop gives. gives) ran.1)

module _ (asked : List Step → Type 0) (written : List ℕ → Type 0) where
  pub talks_give : (rs : List Request) (gives given : List Step → Stop → Type 0) → ((steps : List Step) (stop : Stop) → gives steps stop → given steps stop) → Talks asked written rs gives → Talks asked written rs given
  talks_give rs gives given h talks = talks_as asked asked written written rs gives given (λ steps are. are) (λ text was. was) h talks

  -- it came to its end
  status_ended : (n status : ℕ) → status ≡ (if nat_eq n 0 then 0 else 1) → (steps : List Step) (stop : Stop) → (stop ≡ ended) × (n ≡ refusals_in steps) → status ≡ talk_status steps stop
  status_ended n status is steps stop gives = is ∙ ap (λ m. if nat_eq m 0 then 0 else 1) gives.1 ∙ ap (talk_status steps) (sym gives.0)

  -- it did not
  status_stopped : (g : Stop) (status : ℕ) → status ≡ 3 → ((steps : List Step) → talk_status steps g ≡ 3) → (steps : List Step) (stop : Stop) → stop ≡ g → status ≡ talk_status steps stop
  status_stopped g status three own steps stop is = three ∙ sym (own steps) ∙ ap (talk_status steps) (sym is)

  -- one request
  pub request_ended : (rs : List Request) (b : Bool) (status : ℕ) → status ≡ (if b then 1 else 0) → Talks asked written rs (RequestGives (Ok b)) → Talks asked written rs (λ steps stop. status ≡ talk_status steps stop)
  request_ended rs b status is talks = talks_give rs _ _ (λ steps stop gives. by b is steps stop gives) talks
    where
      by : (c : Bool) → status ≡ (if c then 1 else 0) → (steps : List Step) (stop : Stop) → (stop ≡ ended) × (refusals_in steps ≡ (if c then 1 else 0)) → status ≡ talk_status steps stop
      by true one steps stop gives = status_ended 1 status one steps stop (gives.0, sym gives.1)
      by false none steps stop gives = status_ended 0 status none steps stop (gives.0, sym gives.1)

  pub request_stopped : (rs : List Request) (f : RequestFault) (status : ℕ) → status ≡ 3 → Talks asked written rs (RequestGives (Err f)) → Talks asked written rs (λ steps stop. status ≡ talk_status steps stop)
  request_stopped rs (request_fault.Store f) status three talks = talks_give rs _ _ (status_stopped (failed f) status three (λ _. refl)) talks
  request_stopped rs request_fault.Write status three talks = talks_give rs _ _ (status_stopped cut status three (λ _. refl)) talks
  request_stopped rs request_fault.Memory status three talks = talks_give rs _ _ (status_stopped unsaid status three (λ _. refl)) talks

  -- requests that were asked, by the status of the talk
  pub requests_end : (rs : List Request) (status : ℕ) → Talks asked written rs (λ steps stop. status ≡ talk_status steps stop) → RequestsEnd asked written rs status
  requests_end rs status talks =
      let gives = gives_of talks.stop talks.talk in (
        gives.0,
        record {
          steps = talks.steps;
          text = talks.text;
          stop = talks.stop;
          talk = talks.talk;
          were_asked = talks.were_asked;
          was_written = talks.was_written;
          result_is = gives.1;
        },
        talks.result_is ∙ sym gives.2,
      )

  -- the same where there may be other files, with which the status is 3
  pub deliveries_end : (rs : List Request) (others : Bool) (status : ℕ) → Talks asked written rs (λ steps stop. status ≡ (if others then 3 else talk_status steps stop))
      → (own : ℕ) × RequestsEnd asked written rs own × (status ≡ (if others then 3 else own))
  deliveries_end rs others status talks =
      let own = talk_status talks.steps talks.stop in (
        own,
        requests_end rs own record {
          steps = talks.steps;
          text = talks.text;
          stop = talks.stop;
          talk = talks.talk;
          were_asked = talks.were_asked;
          was_written = talks.was_written;
          result_is = refl;
        },
        talks.result_is,
      )
