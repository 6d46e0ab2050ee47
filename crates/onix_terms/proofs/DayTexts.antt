-- Each day number is that of a date, and the text of a date is read back.
use Rattle.std.proofs.Common.{◌≡◌, ℕ, zero, suc, ℤ, pos, neg_ℤ, ◌≤◌, ◌<◌, ◌+◌, ◌*◌, ◌/◌, ◌%◌, ◌<ℤ◌, ◌+ℤ◌, ◌-ℤ◌, ◌∙◌, [], ◌++◌, true, Some, sym, ap, subst, arith, lit<, lit≤, inl, inr, unsigned_abs}
use Rattle.std.specs.List.{list_all}
use Rattle.std.specs.Char.{is_ascii_digit}
use Rattle.std.specs.Str.Parse.{digits_value}
use Rattle.std.proofs.lemmas.Int.{ints}
use Rattle.std.proofs.lemmas.Bool.{cases_lt}
use Rattle.jiff_core.specs.Calendar.{days_from_civil, days_in_month}
use Rattle.jiff_core.proofs.CalendarLemmas.{days_from_civil-day_count, days_in_month_bounds}
use Rattle.jiff_core.proofs.DateLemmas.{days_from_civil-day, days_from_civil-next_month, days_from_civil-next_year, days_from_civil-max}
use Rattle.onix_terms.specs.Options.{◌>>=◌}
use Rattle.onix_terms.specs.Digits.{digits_of, two_digits}
use Rattle.onix_terms.specs.Day.{IsDayNumber, day_at, day_of, day_text, eight_digits}
use Rattle.onix_terms.proofs.DigitTexts.{digits-some, two-after, two-digits}
use Rattle.onix_terms.proofs.DayNumbers.{IsDated, day_from-dated, date_of-is, first_day}

-- a date of the years 1 to 9999 with this day number
record HasDate (day : ℤ) : Type 0 where
  year : ℕ
  month : ℕ
  of_month : ℕ
  dated : IsDated year month of_month
  number : days_from_civil (pos year) month of_month ≡ day

first-date : HasDate (neg_ℤ (pos 719_162))
first-date =
    let counted = days_from_civil-day_count (pos 1) 1 1 in
    let first = first_day in
    record {
      year = 1;
      month = 1;
      of_month = 1;
      dated = record { civil = ((omega (arith, ints), omega (arith, ints)), (lit≤ tt, lit≤ tt), (lit≤ tt, lit≤ tt)); begun = lit< tt };
      number = omega (arith, ints);
    }

-- the next day of the month
in-month : (day next : ℤ) (h : HasDate day) → next ≡ day +ℤ pos 1 → h.of_month < days_in_month (pos h.year) h.month → HasDate next
in-month day next h is more =
    let later = days_from_civil-day (pos h.year) h.month h.of_month (h.of_month + 1) h.dated.civil.2.0 (omega arith) in
    record {
      year = h.year;
      month = h.month;
      of_month = h.of_month + 1;
      dated = record { civil = (h.dated.civil.0, h.dated.civil.1, (omega arith, omega arith)); begun = h.dated.begun };
      number = omega (arith, ints, later, h.number);
    }

-- the first day of the next month
in-year : (day next : ℤ) (h : HasDate day) → next ≡ day +ℤ pos 1 → h.of_month ≡ days_in_month (pos h.year) h.month → h.month < 12 → HasDate next
in-year day next h is last more =
    let later = days_from_civil-next_month (pos h.year) h.month h.of_month h.dated.civil.1.0 last in
    let some = days_in_month_bounds (pos h.year) (h.month + 1) in
    record {
      year = h.year;
      month = h.month + 1;
      of_month = 1;
      dated = record { civil = (h.dated.civil.0, (omega arith, omega arith), (lit≤ tt, omega (arith, some.1))); begun = h.dated.begun };
      number = omega (arith, ints, later, h.number);
    }

-- the last day of a year by its parts
year-end : (day : ℤ) (h : HasDate day) → h.of_month ≡ days_in_month (pos h.year) h.month → h.month ≡ 12 → days_from_civil (pos h.year) 12 31 ≡ day
year-end day h last december =
    let here : h.of_month ≡ 31 = last ∙ ap (λ m. days_in_month (pos h.year) m) december in
    ap (λ m. days_from_civil (pos h.year) m 31) (sym december) ∙ ap (λ d. days_from_civil (pos h.year) h.month d) (sym here) ∙ h.number

-- the first day of the next year
next-year : (day next : ℤ) (h : HasDate day) → next ≡ day +ℤ pos 1 → days_from_civil (pos h.year) 12 31 ≡ day → h.year < 9999 → HasDate next
next-year day next h is end more =
    let later = days_from_civil-next_year (pos h.year) (pos (h.year + 1)) (omega (arith, ints)) (omega (arith, ints)) in
    record {
      year = h.year + 1;
      month = 1;
      of_month = 1;
      dated = record { civil = ((omega (arith, ints), omega (arith, ints)), (lit≤ tt, lit≤ tt), (lit≤ tt, lit≤ tt)); begun = omega arith };
      number = omega (arith, ints, later, end);
    }

-- the day after a date is the next of its month, the first of the next month or the first of the next year
next-date : (day next : ℤ) → HasDate day → day <ℤ pos 2_932_896 → next ≡ day +ℤ pos 1 → HasDate next
next-date day next h before is =
    elim (cases_lt h.of_month (days_in_month (pos h.year) h.month)) [
      | inl more ↦ in-month day next h is more
      | inr over ↦
          let last : h.of_month ≡ days_in_month (pos h.year) h.month = omega (arith, h.dated.civil.2.1) in
          elim (cases_lt h.month 12) [
            | inl more ↦ in-year day next h is last more
            | inr december ↦
                let end = year-end day h last (omega (arith, h.dated.civil.1.1)) in
                elim (cases_lt h.year 9999) [
                  | inl more ↦ next-year day next h is end more
                  | inr final ↦
                      let year : h.year ≡ 9999 = omega (arith, ints, h.dated.civil.0.1) in
                      let latest : day ≡ pos 2_932_896 = sym end ∙ ap (λ y. days_from_civil (pos y) 12 31) year ∙ days_from_civil-max in
                      absurd (omega (arith, ints, latest, before))
                ]
          ]
    ]

-- each day number from the first on
dates-from : (k : ℕ) → k ≤ 3_652_058 → HasDate (pos k -ℤ pos 719_162)
dates-from zero few = first-date
dates-from (suc k) few = next-date (pos k -ℤ pos 719_162) (pos (suc k) -ℤ pos 719_162) (dates-from k (omega arith)) (omega (arith, ints)) (omega (arith, ints))

has-date : (day : ℤ) → IsDayNumber day → HasDate day
has-date day range =
    let k = unsigned_abs (day +ℤ pos 719_162) in
    let same : pos k -ℤ pos 719_162 ≡ day = omega (arith, ints) in
    subst (λ (z : ℤ). HasDate z) same (dates-from k (omega (arith, ints)))

pub eight-some : (n : ℕ) → n < 100_000_000 → digits_of (eight_digits n) ≡ Some n
eight-some n small =
    let a = n / 1_000_000 in
    let b = n / 10_000 % 100 in
    let c = n / 100 % 100 in
    let d = n % 100 in
    let low : a < 100 = omega arith in
    let all : list_all is_ascii_digit (eight_digits n) ≡ true =
    two-digits a (two_digits b ++ (two_digits c ++ two_digits d)) low ∙ two-digits b (two_digits c ++ two_digits d) (omega arith) ∙ two-digits c (two_digits d) (omega arith) ∙ two-digits d [] (omega arith) in
    let value : digits_value 10 (eight_digits n) ≡ (((0 * 100 + a) * 100 + b) * 100 + c) * 100 + d =
    two-after 0 a (two_digits b ++ (two_digits c ++ two_digits d)) low ∙ two-after (0 * 100 + a) b (two_digits c ++ two_digits d) (omega arith)
    ∙ two-after ((0 * 100 + a) * 100 + b) c (two_digits d) (omega arith) ∙ two-after (((0 * 100 + a) * 100 + b) * 100 + c) d [] (omega arith) in
    let whole : digits_value 10 (eight_digits n) ≡ n = omega (arith, value) in
    digits-some (eight_digits n) (lit< tt) (lit≤ tt) all ∙ ap (λ v. Some v) whole

-- a date as the number YYYYMMDD
record HasNumber (day : ℤ) : Type 0 where
  date : ℕ
  small : date < 100_000_000
  is : day_at date ≡ Some day

has-number : (day : ℤ) → HasDate day → HasNumber day
has-number day h =
    let date = h.year * 10_000 + h.month * 100 + h.of_month in
    let year : h.year < 10_000 = omega (arith, ints, h.dated.civil.0.1) in
    let month : h.month ≤ 12 = h.dated.civil.1.1 in
    let few = days_in_month_bounds (pos h.year) h.month in
    let of_month : h.of_month ≤ 31 = omega (arith, h.dated.civil.2.1, few.0) in
    let years : date / 10_000 ≡ h.year = omega arith in
    let months : date / 100 % 100 ≡ h.month = omega arith in
    let days : date % 100 ≡ h.of_month = omega arith in
    record {
      date = date;
      small = omega arith;
      is = rw (years, months, days) (sym (day_from-dated h.year h.month h.of_month h.dated day (sym h.number)));
    }

pub reads-back : (day : ℤ) → IsDayNumber day → day_of (day_text day) ≡ Some day
reads-back day range =
    let h = has-number day (has-date day range) in
    ap (λ n. digits_of (eight_digits n) >>= day_at) (date_of-is day h.date h.small h.is) ∙ ap (λ o. o >>= day_at) (eight-some h.date h.small) ∙ h.is
