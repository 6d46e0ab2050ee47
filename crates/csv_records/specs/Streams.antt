-- What is read of a stream.
use Rattle.std.specs.Prelude.{◌≡◌, ◌<◌, ◌≤◌, ℕ, List, Option, Some, None, length, ⊤}
use Rattle.std.specs.Io.KnownBytes.{Consumes}
use Rattle.csv_records.specs.declared.streams.InputFault.{InputFault}
use Rattle.csv_records.specs.declared.streams.InputFault.TheVariants as fault

-- a text is what a reader has left, where the reader tells that
abbrev pub IsTold : Option (List ℕ) → List ℕ → Type 0
IsTold None text = ⊤
IsTold (Some known) text = known ≡ text

-- a reader gave at most so many bytes, the first of those that it had, and has those after them
-- left, where it tells them
abbrev pub TakesAtMost : ℕ → Option (List ℕ) → Option (List ℕ) → Type 0
TakesAtMost most old new = (taken : List ℕ) × Consumes old new taken × (length taken ≤ most)

-- a fault of reading a text that may have so many bytes: too large only where it has more; of a
-- failed read, and if memory ran out, nothing is said
abbrev pub InputFits : ℕ → List ℕ → InputFault → Type 0
InputFits most text fault.Read = ⊤
InputFits most text fault.TooLarge = most < length text
InputFits most text fault.Memory = ⊤
