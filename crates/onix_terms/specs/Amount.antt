-- Amounts of money, counted in thousandths.
use Rattle.std.specs.Prelude.{ℕ, List, ◌∷◌, ◌++◌, ◌+◌, ◌*◌, ◌/◌, ◌%◌, Bool, Option, Some, None}
use Rattle.std.specs.Prelude.{◌==◌, nat_lt, nat_le, length, decimal, option_map, if◌then◌else◌}
use Rattle.std.specs.List.{position_or_len, before_first, after_first}
use Rattle.onix_terms.specs.Options.{◌>>=◌}
use Rattle.onix_terms.specs.Digits.{digits_of, two_digits}

-- an amount is below 1,000,000,000
abbrev pub amount_from : ℕ → Option ℕ
amount_from n = if nat_lt n 1_000_000_000_000 then Some n else None

-- the thousandths that a one is worth as the last of so many digits after the point
abbrev pub last_digit_worth : ℕ → ℕ
last_digit_worth places = if places == 1 then 100 else if places == 2 then 10 else 1

-- the thousandths that 1 to 3 digits after the point write
abbrev pub thousandths_of : List ℕ → Option ℕ
thousandths_of text =
    if nat_le (length text) 3
    then option_map (λ n. n * last_digit_worth (length text)) (digits_of text) else None

-- the decimal point
abbrev pub is_point : ℕ → Bool
is_point b = b == 46

-- the thousandths that 1 to 9 digits write, and a point with 1 to 3 digits or none of it
abbrev pub amount_of : List ℕ → Option ℕ
amount_of text =
    if nat_lt (position_or_len is_point text) (length text) then (do
      whole ← digits_of (before_first is_point text)
      part ← thousandths_of (after_first is_point text)
      Some (whole * 1000 + part))
    else option_map (λ whole. whole * 1000) (digits_of text)

-- the three digits of a number below 1,000
abbrev pub three_digits : ℕ → List ℕ
three_digits n = (48 + n / 100) ∷ two_digits (n % 100)

-- the whole part, a point and three decimals
abbrev pub amount_text : ℕ → List ℕ
amount_text n = decimal (n / 1000) ++ 46 ∷ three_digits (n % 1000)
