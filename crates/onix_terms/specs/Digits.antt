-- Texts of decimal digits.
use Rattle.std.specs.Prelude.{ℕ, List, [], ◌∷◌, ◌+◌, ◌/◌, ◌%◌, Option, Some, None, ◌&&◌, nat_lt}
use Rattle.std.specs.Prelude.{nat_le, length, if◌then◌else◌}
use Rattle.std.specs.List.{list_all}
use Rattle.std.specs.Char.{is_ascii_digit}
use Rattle.std.specs.Str.Parse.{digits_value}

-- the number that 1 to 9 digits write
abbrev pub digits_of : List ℕ → Option ℕ
digits_of text =
    if nat_lt 0 (length text) && nat_le (length text) 9 && list_all is_ascii_digit text
    then Some (digits_value 10 text) else None

-- the two digits of a number below 100
abbrev pub two_digits : ℕ → List ℕ
two_digits n = (48 + n / 10) ∷ (48 + n % 10) ∷ []
