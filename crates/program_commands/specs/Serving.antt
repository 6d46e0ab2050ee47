-- How one connection is served, an exchange or a batch, and the line of it.
use Rattle.std.specs.Prelude.{◌≡◌, ◌++◌, ◌∷◌, ℕ, List, [], Option, Result, Ok, ⊤, codes}
use Rattle.std.specs.Fmt.{decimal}
use Rattle.csv_records.specs.Streams.{IsTold}
use Rattle.series_rules.specs.Steps.{Step}
use Rattle.desk_batch.specs.Batch.{RunsBatch}
use Rattle.desk_batch.specs.declared.batch.BatchFault.{BatchFault}
use Rattle.desk_http.specs.Exchange.{Exchanges}
use Rattle.desk_http.specs.declared.exchange.HttpFault.{HttpFault}
use Rattle.program_clients.specs.Printing.{WritesWhole}
use Rattle.program_clients.specs.declared.fault.Fault.{Fault}
use Rattle.program_clients.specs.declared.clients.Protocol.{Protocol}
use Rattle.program_clients.specs.declared.clients.Protocol.TheVariants as protocol

-- the line that says which port is listened at
abbrev pub listening_line : ℕ → List ℕ
listening_line port = codes "listening " ++ decimal port ++ 10 ∷ []

-- how a connection ended: as an exchange, or as the batch of a text
pub data Ending : Type 0 where
  exchange : Result ℕ HttpFault → Ending
  batch : List ℕ → Result ℕ BatchFault → Ending

-- the line of a connection: of an exchange the status of its reply, of a batch how many of its
-- answers are refusals; or that it was not served whole
abbrev pub ending_line : Ending → List ℕ
ending_line (exchange (Ok status)) = decimal status ++ 10 ∷ []
ending_line (batch text (Ok refused)) = codes "batch " ++ decimal refused ++ 10 ∷ []
ending_line _ = codes "fault\n"

-- Sent: what the client sent, where that is known. Replied: these bytes were sent to it
module _ (sent : Option (List ℕ)) (steps : List Step) (replied : List ℕ → Type 0) where
  -- a connection of these steps can end so
  abbrev pub EndsAs : Ending → Type 0
  EndsAs (exchange outcome) = Exchanges sent steps replied outcome
  EndsAs (batch text outcome) =
      IsTold sent text × RunsBatch (λ all. all ≡ steps) replied text outcome

-- by what it was served
abbrev pub protocol_of_ending : Ending → Protocol
protocol_of_ending (exchange outcome) = protocol.Exchange
protocol_of_ending (batch text outcome) = protocol.Batch

-- A connection was served by that protocol, and its line was written. Asked: the desk was asked
-- these steps. Written: these bytes were written
pub record ServesConnection (asked : List Step → Type 0) (protocol : Protocol)
    (sent : Option (List ℕ)) (replied written : List ℕ → Type 0) (result : Result ⊤ Fault)
    : Type 0 where
  pub steps : List Step
  pub ending : Ending
  pub is_by : protocol ≡ protocol_of_ending ending
  pub were_asked : asked steps
  pub ends : EndsAs sent steps replied ending
  pub line : WritesWhole written (ending_line ending) result
