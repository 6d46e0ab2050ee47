-- Connections that were served one after the other, and their lines.
use Rattle.std.specs.Prelude.{◌≡◌, ◌≤◌, ◌⊎◌, ◌++◌, ℕ, Bool, List, [], None, OnOk, Result, length, ⊤}
use Rattle.std.specs.List.{flat_map}
use Rattle.series_rules.specs.Steps.{Step}
use Rattle.desk_http.specs.Writing.{WritesFront}
use Rattle.program_clients.specs.Clients.{MayCome}
use Rattle.program_clients.specs.Printing.{WritesWhole}
use Rattle.program_clients.specs.declared.fault.Fault.{Fault}
use Rattle.program_commands.specs.Serving.{Ending, EndsAs, ending_line, protocol_of_ending}

-- a connection that was served: what the desk was asked in it, and how it ended
pub record Connection : Type 0 where
  pub steps : List Step
  pub ending : Ending

-- it was served as any exchange or batch is, and as a batch only where these are taken; of what its
-- client sent and was sent nothing is told
abbrev pub IsServed : Bool → Connection → Type 0
IsServed batches c =
    MayCome batches (protocol_of_ending c.ending) × EndsAs None c.steps (λ reply. ⊤) c.ending

-- one client was served, and its line was written. Asked: the desk was asked these steps. Written:
-- these bytes were written
pub record ServesClient (asked : List Step → Type 0) (batches : Bool) (written : List ℕ → Type 0)
    (result : Result ⊤ Fault) : Type 0 where
  pub connection : Connection
  pub is_served : IsServed batches connection
  pub were_asked : asked connection.steps
  pub line : WritesWhole written (ending_line connection.ending) result

-- so it was; or no client could be had, and nothing was asked or written
abbrev pub ServesNext : (List Step → Type 0) → Bool → (List ℕ → Type 0) → Result ⊤ Fault → Type 0
ServesNext asked batches written result =
    ServesClient asked batches written result ⊎ (OnOk result ⊥ × asked [] × written [])

-- the lines of connections
abbrev pub lines_of : List Connection → List ℕ
lines_of served = flat_map (λ c. ending_line c.ending) served

-- the lines of connections were written, each whole but perhaps the last, of which a first part was
abbrev pub WritesLines : (List ℕ → Type 0) → List Connection → Type 0
WritesLines written served =
    (before last : List Connection) × (before ++ last ≡ served) × (length last ≤ 1)
    × WritesFront (λ part. written (lines_of before ++ part)) (lines_of last)

-- the lines of connections were written so; with 0 they are those of so many, each whole, and else
-- the status is 3
abbrev pub EndsServing : (List ℕ → Type 0) → ℕ → List Connection → ℕ → Type 0
EndsServing written count served status =
    WritesLines written served
    × (((status ≡ 0) × (length served ≡ count) × written (lines_of served)) ⊎ (status ≡ 3))
