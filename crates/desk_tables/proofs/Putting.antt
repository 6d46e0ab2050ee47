-- A statement that changes the rows.
use Rattle.std.proofs.Common.{ℕ, List, Ok}
use Rattle.sqlite_value.specs.Order.{Row}
use Rattle.sqlite.specs.State.{State, Executes}
use Rattle.desk_tables.specs.Rows.{DeskRows, Holds}

-- with these parameters it changes the rows so
abbrev pub Puts : List ℕ → Row → (DeskRows → DeskRows) → Type 1
Puts sql params change = (old new : State) (count : ℕ) (rows : DeskRows) → Holds old.now rows → Executes sql params old new (Ok count) → Holds new.now (change rows)
