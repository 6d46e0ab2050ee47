-- What a reader of fields gives.
use Rattle.std.specs.Prelude.{◌≡◌, ℕ, List, Option, Some, None, Result, Ok, Err}
use Rattle.std.specs.Result.{result_ok}
use Rattle.onix_records.specs.declared.row.RowFault.{RowFault}
use Rattle.onix_records.specs.declared.row.RowFault.TheVariants as fault

-- a call gave what reading gives, unless memory ran out
abbrev pub Gives : {A : Type 0} → Result A RowFault → Option A → Type 0
Gives (Ok x) read = read ≡ Some x
Gives (Err fault.Wrong) read = read ≡ None
Gives (Err fault.Memory) read = Unit {0}

-- a call gave what reading makes of a value that a text may be parsed to, unless memory ran out
abbrev pub GivesOfParsed : {A B E : Type 0} → (List ℕ → Result A E → Type 0) → List ℕ
    → (Option A → Option B) → Result B RowFault → Type 0
GivesOfParsed {A = A} {E = E} parses text reading result =
    ((parsed : Result A E) × parses text parsed × Gives result (reading (result_ok parsed)))
