-- A kept series, as contracts see it.
use Rattle.std.specs.Prelude.{◌≡◌, ℕ, List, Option}
use Rattle.std.specs.BTreeMap.{is_at}
use Rattle.std.specs.Map.{lookup}
use Rattle.std.specs.Ordering.{nat_cmp}
use Rattle.onix_records.specs.declared.agreements.Agreement.{Agreement}
use Rattle.series_rules.specs.declared.requests.Standing.{Standing}

-- an agreed series, and what stands at its numbers, in order of number
pub record KeptSeries : Type 0 where
  pub agreement : Agreement
  pub numbers : List (ℕ × Standing)

-- what stands at that number
abbrev pub stands_at : List (ℕ × Standing) → ℕ → Option Standing
stands_at numbers n = lookup (is_at (nat_cmp n)) numbers

-- the same stands at each number as before
abbrev pub AreSame : (ℕ → Option Standing) → (ℕ → Option Standing) → Type 0
AreSame old new = (n : ℕ) → new n ≡ old n
