-- The texts of parts that are kept, and what is told of them.
use Rattle.std.specs.Prelude.{◌≡◌, ℕ, ◌+◌, ◌++◌, List, Option, Some, None}
use Rattle.std.specs.Prelude.{Result, Ok, Err, ⊤, if◌then◌else◌, nat_le, length}
use Rattle.csv_records.specs.RecordTexts.{limit}

-- the texts of parts one after the other, where they are told, with one more: as long as that is no
-- longer than the largest message, which is in memory
abbrev pub with_text : Option (List ℕ) → List ℕ → Option (List ℕ)
with_text None text = None
with_text (Some before) text =
    if nat_le (length before + length text) limit then Some (before ++ text) else None

-- what is in memory, where no file has more
abbrev pub told_texts : {F : Type 0} → List ℕ → Option F → Option (List ℕ)
told_texts first None = Some first
told_texts first (Some file) = None

-- what was written of bytes that are told: all of them, or with an error a first part
abbrev pub IsWritten : {E : Type 0} → Option (List ℕ) → Result (Unit {0}) E → List ℕ → Type 0
IsWritten None result written = ⊤
IsWritten (Some bytes) (Ok done) written = written ≡ bytes
IsWritten (Some bytes) (Err fault) written = (rest : List ℕ) × (written ++ rest ≡ bytes)
