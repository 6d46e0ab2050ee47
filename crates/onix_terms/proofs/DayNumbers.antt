-- Dates of the years 1 to 9999 and the numbers of their days.
use Rattle.std.proofs.Common.{◌≡◌, ℕ, zero, suc, ℤ, pos, neg_ℤ, ◌≤◌, ◌<◌, ◌+◌, ◌*◌, ◌/◌, ◌%◌, ◌≤ℤ◌, ◌<ℤ◌, ◌∙◌, Bool, true, false, Some, None, refl, sym, ap, subst, arith, lit≤, inl, inr}
use Rattle.std.specs.Prelude.{◌&&◌, nat_lt, nat_le}
use Rattle.std.specs.Ordering.{int_eq}
use Rattle.std.specs.Option.{option_eq}
use Rattle.std.proofs.lemmas.Int.{ints, by_lt_z}
use Rattle.std.proofs.lemmas.Bool.{cases_lt, cond_both, cond-false, cond-true, false_from_ne_true}
use Rattle.std.proofs.lemmas.Bool.Decides.{nat_tests, Decides-int_eq}
use Rattle.std.proofs.lemmas.Option.{cond_some}
use Rattle.jiff_core.specs.Calendar.{IsCivilDate, IsDate, day_count, days_of_years, days_of_months, days_from_civil, days_in_month}
use Rattle.jiff_core.specs.declared.civil.date.Date.{Date}
use Rattle.jiff_core.proofs.CalendarLemmas.{day_count-lt_year, day_count_bounds, days_from_civil-day_count, days_in_month_bounds}
use Rattle.jiff_core.proofs.DateLemmas.{epoch_day_injective}
use Rattle.onix_terms.specs.Day.{IsDayNumber, is_date, day_from, day_at, date_of, last_below}
use Rattle.onix_terms.specs.Plain.{option-decides}

-- the calendar has the date, and its year is not before 1
pub record IsDated (year month day : ℕ) : Type 0 where
  pub civil : IsCivilDate (pos year) month day
  pub begun : 0 < year

-- the tests of a date
passes : (year month day limit : ℕ) → 0 < year → year < 10_000 → 0 < month → month ≤ 12 → 0 < day → day ≤ limit →
    (nat_lt 0 year && nat_lt year 10_000 && nat_lt 0 month && nat_le month 12 && nat_lt 0 day && nat_le day limit) ≡ true
passes year month day limit a b c d e f = grind (arith, nat_tests)

passed : (year month day limit : ℕ) → (nat_lt 0 year && nat_lt year 10_000 && nat_lt 0 month && nat_le month 12 && nat_lt 0 day && nat_le day limit) ≡ true →
    (0 < year) × (year < 10_000) × (0 < month) × (month ≤ 12) × (0 < day) × (day ≤ limit)
passed year month day limit e =
    (grind (arith, nat_tests, e), grind (arith, nat_tests, e), grind (arith, nat_tests, e), grind (arith, nat_tests, e), grind (arith, nat_tests, e), grind (arith, nat_tests, e))

pub dated-passes : (year month day : ℕ) → IsDated year month day → is_date year month day ≡ true
dated-passes year month day d =
    let small : year < 10_000 = omega (arith, ints, d.civil.0) in
    passes year month day _ d.begun small d.civil.1.0 d.civil.1.1 d.civil.2.0 d.civil.2.1

pub passes-dated : (year month day : ℕ) → is_date year month day ≡ true → IsDated year month day
passes-dated year month day e =
    let f = passed year month day (days_in_month (pos year) month) e in
    record { civil = ((omega (arith, ints), omega (arith, ints)), (f.2, f.3), (f.4, f.5)); begun = f.0 }

-- the first day of the year 1
pub first_day : day_count (pos 1) 1 1 ≡ 3_652_791
unfolding day_count days_of_years days_of_months
first_day = refl

-- the last day of the year before it
last_day_before : day_count (pos 0) 12 31 ≡ 3_652_790
unfolding day_count days_of_years days_of_months
last_day_before = refl

-- years before 1 end before the first day number, and the others begin no earlier
pub early : (y : ℤ) (m d : ℕ) → IsCivilDate y m d → y <ℤ pos 1 → days_from_civil y m d <ℤ neg_ℤ (pos 719_162)
early y m d c before =
    let sooner = day_count-lt_year y m d (pos 1) 1 1 c (lit≤ tt) before in
    let first = first_day in
    let counted = days_from_civil-day_count y m d in
    omega (arith, ints)

late : (y : ℤ) (m d : ℕ) → IsCivilDate y m d → pos 1 ≤ℤ y → neg_ℤ (pos 719_162) ≤ℤ days_from_civil y m d
late y m d c begun =
    let old : IsCivilDate (pos 0) 12 31 = ((omega (arith, ints), omega (arith, ints)), (lit≤ tt, lit≤ tt), (lit≤ tt, lit≤ tt)) in
    let sooner = day_count-lt_year (pos 0) 12 31 y m d old c.2.0 (omega (arith, ints)) in
    let last = last_day_before in
    let counted = days_from_civil-day_count y m d in
    omega (arith, ints)

pub in_range : (y : ℤ) (m d : ℕ) → IsCivilDate y m d → pos 1 ≤ℤ y → IsDayNumber (days_from_civil y m d)
in_range y m d c begun =
    let bounds = day_count_bounds y m d c in
    let counted = days_from_civil-day_count y m d in
    (late y m d c begun, omega (arith, ints))

pub dated-in_range : (year month day : ℕ) → IsDated year month day → IsDayNumber (days_from_civil (pos year) month day)
dated-in_range year month day d = in_range (pos year) month day d.civil (omega (arith, ints, d.begun))

pub day_from-dated : (year month day : ℕ) → IsDated year month day → (number : ℤ) → number ≡ days_from_civil (pos year) month day → Some number ≡ day_from year month day
day_from-dated year month day d number is = ap Some is ∙ sym (cond-true _ (Some (days_from_civil (pos year) month day)) None (dated-passes year month day d))

civil-same : (y : ℤ) (m d : ℕ) (y₂ : ℤ) (m₂ d₂ : ℕ) → y ≡ y₂ → m ≡ m₂ → d ≡ d₂ → IsCivilDate y m d → IsCivilDate y₂ m₂ d₂
civil-same y m d y₂ m₂ d₂ year month day c =
    let one : IsCivilDate y₂ m d = subst (λ (v : ℤ). IsCivilDate v m d) year c in
    let two : IsCivilDate y₂ m₂ d = subst (λ (v : ℕ). IsCivilDate y₂ v d) month one in
    subst (λ (v : ℕ). IsCivilDate y₂ m₂ v) day two

-- the day of a date of the calendar by its year, month and day
pub day_from-date : (d : Date) (year month day : ℕ) (number : ℤ) → d.year ≡ pos year → d.month ≡ month → d.day ≡ day → 0 < year → number ≡ days_from_civil d.year d.month d.day →
    Some number ≡ day_from year month day
day_from-date d year month day number y m n begun is =
    let dated : IsDated year month day = record { civil = civil-same _ _ _ _ _ _ y m n (d.year_in, d.month_in, d.day_in); begun = begun } in
    let same : days_from_civil d.year d.month d.day ≡ days_from_civil (pos year) month day = rw (y, m, n) refl in
    day_from-dated year month day dated number (is ∙ same)

-- without such a date there is no day
pub day_from-none : (year month day : ℕ) → (IsDated year month day → ⊥) → None ≡ day_from year month day
day_from-none year month day never = sym (cond-false _ (Some (days_from_civil (pos year) month day)) None (false_from_ne_true _ (λ e. never (passes-dated year month day e))))

-- such a date is one of the calendar
pub dated-is_date : (year month day : ℕ) (y m d : ℤ) → y ≡ pos year → m ≡ pos month → d ≡ pos day → IsDated year month day → IsDate y m d
dated-is_date year month day y m d same_year same_month same_day dated =
    let c = dated.civil in
    rw (same_year, same_month, same_day) (c.0, (omega (arith, ints, c.1), omega (arith, ints, c.1)), (omega (arith, ints, c.2), omega (arith, ints, c.2)))

-- what a number that has a day says of its parts
record IsPartsOf (date : ℕ) (day : ℤ) : Type 0 where
  dated : IsDated (date / 10_000) (date / 100 % 100) (date % 100)
  number : days_from_civil (pos (date / 10_000)) (date / 100 % 100) (date % 100) ≡ day

parts-of : (date : ℕ) (day : ℤ) → day_at date ≡ Some day → IsPartsOf date day
parts-of date day e =
    let both = cond_some (is_date (date / 10_000) (date / 100 % 100) (date % 100)) (days_from_civil (pos (date / 10_000)) (date / 100 % 100) (date % 100)) day e in
    record { dated = passes-dated _ _ _ both.0; number = both.1 }

abbrev date-record : (y : ℤ) (m d : ℕ) → IsCivilDate y m d → Date
date-record y m d c = record { year = y; month = m; day = d; year_in = c.0; month_in = c.1; day_in = c.2 }

pub day_at-in_range : (date : ℕ) (day : ℤ) → day_at date ≡ Some day → IsDayNumber day
day_at-in_range date day e =
    let p = parts-of date day e in
    subst (λ (z : ℤ). IsDayNumber z) p.number (dated-in_range (date / 10_000) (date / 100 % 100) (date % 100) p.dated)

-- two numbers with one day are the same
pub one-date : (date other : ℕ) (day : ℤ) → day_at date ≡ Some day → day_at other ≡ Some day → other ≡ date
one-date date other day e f =
    let p = parts-of date day e in
    let q = parts-of other day f in
    let a = date-record (pos (date / 10_000)) (date / 100 % 100) (date % 100) p.dated.civil in
    let b = date-record (pos (other / 10_000)) (other / 100 % 100) (other % 100) q.dated.civil in
    let same = epoch_day_injective a b (p.number ∙ sym q.number) in
    let year : pos (date / 10_000) ≡ pos (other / 10_000) = same.0 in
    let years : date / 10_000 ≡ other / 10_000 = omega (arith, ints, year) in
    let month : date / 100 % 100 ≡ other / 100 % 100 = same.1 in
    let days : date % 100 ≡ other % 100 = same.2 in
    omega arith

below-next : (passes : ℕ → Bool) (n bound : ℕ) → n < suc bound → passes n ≡ true → passes bound ≡ false → n < bound
below-next passes n bound small there none =
    elim (cases_lt n bound) [
      | inl less ↦ less
      | inr more ↦ let same : n ≡ bound = omega arith in let other : passes n ≡ false = ap passes same ∙ none in cc
    ]

-- the only number below the bound that passes is found
last_below-only : (passes : ℕ → Bool) (n bound : ℕ) → n < bound → passes n ≡ true → ((k : ℕ) → passes k ≡ true → k ≡ n) → last_below passes bound ≡ n
unfolding last_below
last_below-only passes n zero small there only = absurd (omega arith)
last_below-only passes n (suc bound) small there only =
    cond_both (passes bound) bound (last_below passes bound) (λ found. found ≡ n) (only bound)
    (λ none. last_below-only passes n bound (below-next passes n bound small there none) there only)

pub date_of-is : (day : ℤ) (date : ℕ) → date < 100_000_000 → day_at date ≡ Some day → date_of day ≡ date
date_of-is day date small e =
    let decides = option-decides Decides-int_eq in
    last_below-only (λ k. option_eq int_eq (day_at k) (Some day)) date 100_000_000 small ((decides (day_at date) (Some day)).1 e)
    (λ k h. one-date date k day e ((decides (day_at k) (Some day)).0 h))

-- a day from the first on has a year from 1 on
pub begun-year : (d : Date) (day : ℤ) → days_from_civil d.year d.month d.day ≡ day → neg_ℤ (pos 719_162) ≤ℤ day → pos 1 ≤ℤ d.year
begun-year d day is begun =
    by_lt_z d.year (pos 1) (λ before. absurd (omega (arith, ints, early d.year d.month d.day (d.year_in, d.month_in, d.day_in) before))) (λ after. after)

-- the number YYYYMMDD of a date with this day
pub date_of-date : (d : Date) (day : ℤ) → days_from_civil d.year d.month d.day ≡ day → neg_ℤ (pos 719_162) ≤ℤ day → (year : ℕ) → d.year ≡ pos year → date_of day ≡ year * 10_000 + d.month * 100 + d.day
date_of-date d day is begun year y =
    let date = year * 10_000 + d.month * 100 + d.day in
    let limits = days_in_month_bounds d.year d.month in
    let few : d.day ≤ 31 = omega (arith, d.day_in.1, limits.0) in
    let late_enough : pos 1 ≤ℤ d.year = begun-year d day is begun in
    let first : 0 < year = omega (arith, ints) in
    let last : year < 10_000 = omega (arith, ints, d.year_in.1) in
    let months : d.month ≤ 12 = d.month_in.1 in
    let years : date / 10_000 ≡ year = omega arith in
    let in_year : date / 100 % 100 ≡ d.month = omega arith in
    let in_month : date % 100 ≡ d.day = omega arith in
    let small : date < 100_000_000 = omega arith in
    let begins : 0 < date / 10_000 = omega arith in
    date_of-is day date small (sym (day_from-date d (date / 10_000) (date / 100 % 100) (date % 100) day (y ∙ ap (λ n. pos n) (sym years)) (sym in_year) (sym in_month) begins (sym is)))
