-- Tables of what stands for what.
use Rattle.std.specs.Prelude.{Bool, List, [], ◌∷◌, Option, Some, None, if◌then◌else◌}

-- what stands in a table beside the first key that passes
abbrev pub entry : {K A : Type 0} → (K → Bool) → List (K × A) → Option A
entry passes [] = None
entry passes (e ∷ table) = if passes e.0 then Some e.1 else entry passes table
