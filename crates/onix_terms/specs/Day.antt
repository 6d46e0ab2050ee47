-- Days by their numbers: 0 is 1 January 1970.
use Rattle.std.specs.Prelude.{ℕ, zero, suc, ℤ, pos, neg_ℤ, ◌≤ℤ◌, List, ◌++◌, ◌/◌, ◌%◌, Bool, Option}
use Rattle.std.specs.Prelude.{Some, None, ◌&&◌, ◌==◌, nat_lt, nat_le, length, if◌then◌else◌}
use Rattle.std.specs.Ordering.{int_eq}
use Rattle.std.specs.Option.{option_eq}
use Rattle.jiff_core.specs.Calendar.{days_in_month, days_from_civil}
use Rattle.onix_terms.specs.Options.{◌>>=◌}
use Rattle.onix_terms.specs.Digits.{digits_of, two_digits}

-- the number of a day from 1 January 0001 to 31 December 9999
abbrev pub IsDayNumber : ℤ → Type 0
IsDayNumber n = (neg_ℤ (pos 719_162) ≤ℤ n) × (n ≤ℤ pos 2_932_896)

-- the calendar has this day of a year from 1 to 9999
abbrev pub is_date : ℕ → ℕ → ℕ → Bool
is_date year month day =
    nat_lt 0 year && nat_lt year 10_000 && nat_lt 0 month && nat_le month 12
    && nat_lt 0 day && nat_le day (days_in_month (pos year) month)

-- the number of this day, where the calendar has it
abbrev pub day_from : ℕ → ℕ → ℕ → Option ℤ
day_from year month day =
    if is_date year month day then Some (days_from_civil (pos year) month day) else None

-- the number of the day whose date the number YYYYMMDD is
abbrev pub day_at : ℕ → Option ℤ
day_at date = day_from (date / 10_000) (date / 100 % 100) (date % 100)

-- the number of the day whose date the eight digits YYYYMMDD write
abbrev pub day_of : List ℕ → Option ℤ
day_of text = if length text == 8 then digits_of text >>= day_at else None

-- the greatest number below n that passes, or 0
unfoldable pub last_below : (ℕ → Bool) → ℕ → ℕ
last_below passes zero = 0
last_below passes (suc n) = if passes n then n else last_below passes n

-- the date of a day as the number YYYYMMDD: the only one whose day it is
abbrev pub date_of : ℤ → ℕ
date_of day = last_below (λ date. option_eq int_eq (day_at date) (Some day)) 100_000_000

-- the eight digits of a number below 100,000,000
abbrev pub eight_digits : ℕ → List ℕ
eight_digits n =
    two_digits (n / 1_000_000) ++ two_digits (n / 10_000 % 100) ++ two_digits (n / 100 % 100)
    ++ two_digits (n % 100)

-- the date of a day, written YYYYMMDD
abbrev pub day_text : ℤ → List ℕ
day_text day = eight_digits (date_of day)
