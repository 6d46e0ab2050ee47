-- One client that was served.
use Rattle.std.proofs.Common.{◌≡◌, ◌⊎◌, [], ℕ, Bool, List, Option, None, Result, Ok, Err, inl, inr, refl, subst}
use Rattle.std.specs.Prelude.{⊤}
use Rattle.series_rules.specs.Steps.{Step}
use Rattle.desk_batch.specs.Batch.{RunsBatch}
use Rattle.desk_batch.specs.declared.batch.BatchFault.{BatchFault}
use Rattle.desk_batch.specs.declared.batch.BatchFault.TheVariants as batch_fault
use Rattle.desk_http.specs.Exchange.{Exchanges, IsReply}
use Rattle.desk_http.specs.Reply.{Reply}
use Rattle.desk_http.specs.declared.exchange.HttpFault.{HttpFault}
use Rattle.desk_http.specs.declared.exchange.HttpFault.TheVariants as fault
use Rattle.program_commands.proofs.TalkEnds.{batch_as}
use Rattle.program_clients.specs.Clients.{MayCome}
use Rattle.program_commands.specs.Connections.{ServesClient}
use Rattle.program_commands.specs.Serving.{Ending, EndsAs, ServesConnection, batch, exchange}
use Rattle.program_clients.specs.declared.clients.Protocol.{Protocol}
use Rattle.program_clients.specs.declared.fault.Fault.{Fault}

-- ---- the steps of a batch

pub batch_steps : (asked : List Step → Type 0) (written : List ℕ → Type 0) (text : List ℕ) (result : Result ℕ BatchFault) → RunsBatch asked written text result
    → (steps : List Step) × asked steps × RunsBatch (λ all. all ≡ steps) written text result
batch_steps asked written text (Ok n) (has, talks) =
    (talks.steps, talks.were_asked, (has, record { steps = talks.steps; text = talks.text; stop = talks.stop; talk = talks.talk; were_asked = refl; was_written = talks.was_written; result_is = talks.result_is }))
batch_steps asked written text (Err (batch_fault.Records f)) is = ([], is.1, (is.0, refl, is.2))
batch_steps asked written text (Err batch_fault.Read) is = ([], is.0, (refl, is.1))
batch_steps asked written text (Err (batch_fault.Store done f)) (has, talks) =
    (talks.steps, talks.were_asked, (has, record { steps = talks.steps; text = talks.text; stop = talks.stop; talk = talks.talk; were_asked = refl; was_written = talks.was_written; result_is = talks.result_is }))
batch_steps asked written text (Err (batch_fault.Write done)) (has, talks) =
    (talks.steps, talks.were_asked, (has, record { steps = talks.steps; text = talks.text; stop = talks.stop; talk = talks.talk; were_asked = refl; was_written = talks.was_written; result_is = talks.result_is }))
batch_steps asked written text (Err (batch_fault.Memory done)) (has, talks) =
    (talks.steps, talks.were_asked, (has, record { steps = talks.steps; text = talks.text; stop = talks.stop; talk = talks.talk; were_asked = refl; was_written = talks.was_written; result_is = talks.result_is }))

-- ---- where nothing is told of a client

untold_reply : (sent : Option (List ℕ)) (steps : List Step) (reply : Reply) → IsReply sent steps reply → IsReply None steps reply
untold_reply sent steps reply is = record { wanted = is.wanted; asks = tt; replies = is.replies }

untold_replies : (sent : Option (List ℕ)) (steps : List Step) → (steps ≡ []) ⊎ ((reply : Reply) × IsReply sent steps reply) → (steps ≡ []) ⊎ ((reply : Reply) × IsReply None steps reply)
untold_replies sent steps (inl none) = inl none
untold_replies sent steps (inr (reply, is)) = inr (reply, untold_reply sent steps reply is)

untold_exchange : (sent : Option (List ℕ)) (steps : List Step) (written : List ℕ → Type 0) (outcome : Result ℕ HttpFault) → Exchanges sent steps written outcome → Exchanges None steps (λ reply. ⊤) outcome
untold_exchange sent steps written (Ok status) is = (is.0, untold_reply sent steps is.0 is.1, is.2, tt)
untold_exchange sent steps written (Err (fault.Write status)) is = (is.0, untold_reply sent steps is.0 is.1, is.2, (is.3.0, is.3.1, is.3.2, tt))
untold_exchange sent steps written (Err fault.Read) is = (is.0, tt)
untold_exchange sent steps written (Err (fault.Memory taken)) is = (untold_replies sent steps is.0, is.1, tt)

untold_ending : (sent : Option (List ℕ)) (steps : List Step) (written : List ℕ → Type 0) (ending : Ending) → EndsAs sent steps written ending → EndsAs None steps (λ reply. ⊤) ending
untold_ending sent steps written (exchange outcome) is = untold_exchange sent steps written outcome is
untold_ending sent steps written (batch text outcome) is = (tt, batch_as (λ all. all ≡ steps) (λ all. all ≡ steps) written (λ reply. ⊤) (λ all same. same) (λ reply wrote. tt) text outcome is.1)

-- a client was served by its protocol
pub client_of : (asked : List Step → Type 0) (sent : Option (List ℕ)) (replied : List ℕ → Type 0) (batches : Bool) (written : List ℕ → Type 0) (result : Result ⊤ Fault) (p : Protocol)
    → MayCome batches p → ServesConnection asked p sent replied written result → ServesClient asked batches written result
client_of asked sent replied batches written result p may it = record {
  connection = record { steps = it.steps; ending = it.ending };
  is_served = (subst (MayCome batches) it.is_by may, untold_ending sent it.steps replied it.ending it.ends);
  were_asked = it.were_asked;
  line = it.line;
}
