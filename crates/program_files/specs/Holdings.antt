-- What the files of names hold.
use Rattle.std.specs.Prelude.{ℕ, List, Option}

-- what the file of each name holds, where there is one and that is told
abbrev pub Holdings : Type 0
Holdings = List ℕ → Option (List ℕ)
