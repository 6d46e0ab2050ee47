-- Percents, counted in hundredths of a percent.
use Rattle.std.specs.Prelude.{ℕ, Bool, ◌&&◌, List, Option, Some, None, ◌+◌, ◌*◌, ◌==◌, nat_le, nat_lt}
use Rattle.std.specs.Prelude.{length, option_map, take, drop, if◌then◌else◌}
use Rattle.std.specs.List.{after_first, before_first, list_all, position_or_len}
use Rattle.onix_terms.specs.Amount.{is_point}
use Rattle.onix_terms.specs.Digits.{digits_of}
use Rattle.onix_terms.specs.Options.{◌>>=◌}

-- the number that one to three digits write
abbrev pub whole_of : List ℕ → Option ℕ
whole_of text = if nat_le (length text) 3 then digits_of text else None

-- the hundredths that a one is worth as the last of so many digits behind the point
abbrev pub last_digit_worth : ℕ → ℕ
last_digit_worth places = if places == 1 then 10 else 1

-- the hundredths that one or two digits behind the point write
abbrev pub hundredths_of : List ℕ → Option ℕ
hundredths_of text =
    if nat_le (length text) 2
    then option_map (λ n. n * last_digit_worth (length text)) (digits_of text) else None

-- the hundredths that digits behind the point write, of which those behind the second are zeros
abbrev pub short_hundredths_of : List ℕ → Option ℕ
short_hundredths_of text =
    if list_all (λ b. b == 48) (drop 2 text) then hundredths_of (take 2 text) else None

-- the percent that digits write, with a point and digits behind it, read so, or without
abbrev pub percent_by : (List ℕ → Option ℕ) → List ℕ → Option ℕ
percent_by decimals_of text =
    if nat_lt (position_or_len is_point text) (length text) then (do
      whole ← whole_of (before_first is_point text)
      part ← decimals_of (after_first is_point text)
      Some (whole * 100 + part))
    else option_map (λ whole. whole * 100 + 0) (whole_of text)

-- the percent that one to three digits write, with a point and one or two digits or none of it
abbrev pub percent_of : List ℕ → Option ℕ
percent_of = percent_by hundredths_of

-- whether a percent is above 0 and below 1: a fraction of 1 that was meant as percents
abbrev pub is_fraction : ℕ → Bool
is_fraction percent = nat_lt 0 percent && nat_lt percent 100

-- the percent that a text of a feed writes: zeros behind the second decimal are nothing, and a
-- fraction is none
abbrev pub feed_percent_of : List ℕ → Option ℕ
feed_percent_of text = do
  percent ← percent_by short_hundredths_of text
  if is_fraction percent then None else Some percent
