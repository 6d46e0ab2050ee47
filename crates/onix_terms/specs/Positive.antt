-- Positive numbers of a few digits.
use Rattle.std.specs.Prelude.{ℕ, List, Option, Some, None, ◌&&◌, nat_lt, nat_le, length, if◌then◌else◌}
use Rattle.onix_terms.specs.Options.{◌>>=◌}
use Rattle.onix_terms.specs.Digits.{digits_of}

-- a number from 1 that is below this one
abbrev pub positive_from : ℕ → ℕ → Option ℕ
positive_from below n = if nat_lt 0 n && nat_lt n below then Some n else None

-- the number from 1 and below this one that at most so many digits write
abbrev pub positive_of : ℕ → ℕ → List ℕ → Option ℕ
positive_of digits below text =
    if nat_le (length text) digits then digits_of text >>= positive_from below else None
