-- The gaps of a series.
use Rattle.std.specs.Prelude.{◌≡◌, ◌+◌, ◌-◌, ◌<◌, ℕ, List, [], ◌∷◌, Option, Some, None, IsSome, max, bytes_eq, nat_eq, filter, length, is_none, is_some, nat_lt, if◌then◌else◌, ◌≤◌, ◌⊎◌}
use Rattle.std.specs.List.{All, Contains, range_with_len}
use Rattle.onix_records.specs.declared.agreements.Agreement.{Agreement}
use Rattle.series_rules.specs.Agreements.{agreements_of}
use Rattle.series_rules.specs.Firsts.{first_at, admitted}
use Rattle.series_rules.specs.Series.{next_of, IsNext}
use Rattle.series_rules.specs.declared.requests.Request.{Request}
use Rattle.series_rules.specs.Firsts.{Placement}
use Rattle.series_rules.specs.declared.requests.Standing.{Standing}
use Rattle.series_rules.specs.declared.answers.GapReport.{GapReport}

-- the number that it puts something at, where that is in the series
abbrev pub number_in : Option Placement → List ℕ → Option ℕ
number_in None series = None
number_in (Some f) series = if bytes_eq f.series series then Some f.number else None

-- the greater of two numbers, where there are some
abbrev pub greater_of : Option ℕ → Option ℕ → Option ℕ
greater_of None n = n
greater_of (Some m) None = Some m
greater_of (Some m) (Some n) = Some (max m n)

-- the greatest number of the series that has something
abbrev pub greatest_of : List Request → List ℕ → Option ℕ
greatest_of [] series = None
greatest_of (r ∷ L) series =
    greater_of (greatest_of L series) (number_in (admitted (agreements_of L) r) series)

-- the number is the greatest that has something, or nothing has
abbrev pub IsGreatest : (ℕ → Option Standing) → Option ℕ → Type 0
IsGreatest f None = (n : ℕ) → f n ≡ None
IsGreatest f (Some g) = IsSome (f g) × ((n : ℕ) → g < n → f n ≡ None)

-- how many numbers there are from one on up to the greatest
abbrev pub numbers_up_to : ℕ → Option ℕ → ℕ
numbers_up_to from None = 0
numbers_up_to from (Some g) = g + 1 - from

-- those of so many numbers, from one on, that have nothing
abbrev pub lacking : (ℕ → Option Standing) → ℕ → ℕ → List ℕ
lacking f from len = filter (λ n. is_none (f n)) (range_with_len from len)

-- how many of so many numbers, from one on, have something
abbrev pub having : (ℕ → Option Standing) → ℕ → ℕ → ℕ
having f from len = length (filter (λ n. is_some (f n)) (range_with_len from len))

-- ranges with one more number before them, which may touch the first of them
abbrev pub with_number : ℕ → List (ℕ × ℕ) → List (ℕ × ℕ)
with_number n [] = (n, n) ∷ []
with_number n (p ∷ ps) = if nat_eq p.0 (n + 1) then (n, p.1) ∷ ps else (n, n) ∷ p ∷ ps

-- ascending numbers as ranges of which no two touch, each by its first and its last number
abbrev pub ranges_of : List ℕ → List (ℕ × ℕ)
ranges_of [] = []
ranges_of (n ∷ ns) = with_number n (ranges_of ns)

-- the report on what stands in a series, by its first number, the first number that has nothing
-- and the greatest that has something
abbrev pub report_by : List ℕ → (ℕ → Option Standing) → ℕ → ℕ → Option ℕ → GapReport
report_by series f from after greatest = record {
  series = series;
  first = from;
  next = after;
  greatest = greatest;
  held = having f after (numbers_up_to after greatest);
  missing = ranges_of (lacking f from (numbers_up_to from greatest));
}

-- the gaps of the agreed series
abbrev pub gaps_of : List Request → Agreement → GapReport
gaps_of L a = report_by a.name (first_at L a.name) a.first (next_of L a) (greatest_of L a.name)

-- the numbers from one on that are below another, as a range where there are some
abbrev pub range_below : ℕ → ℕ → List (ℕ × ℕ)
range_below from n = if nat_lt from n then (from, n - 1) ∷ [] else []

-- the number is not above the greatest
abbrev pub IsUpTo : ℕ → Option ℕ → Type 0
IsUpTo n None = ⊥
IsUpTo n (Some g) = n ≤ g

-- the number lies in one of the ranges
abbrev pub IsInRanges : ℕ → List (ℕ × ℕ) → Type 0
IsInRanges n [] = ⊥
IsInRanges n (p ∷ ps) = ((p.0 ≤ n) × (n ≤ p.1)) ⊎ IsInRanges n ps

-- the ranges ascend, from a number on, and no two touch
abbrev pub AreRangesFrom : ℕ → List (ℕ × ℕ) → Type 0
AreRangesFrom n [] = Unit {0}
AreRangesFrom n (p ∷ ps) = (n ≤ p.0) × (p.0 ≤ p.1) × AreRangesFrom (p.1 + 2) ps

-- numbers from one on, each above the one before it
abbrev pub AreRisingFrom : ℕ → List ℕ → Type 0
AreRisingFrom n [] = Unit {0}
AreRisingFrom n (m ∷ ms) = (n ≤ m) × AreRisingFrom (m + 1) ms

-- the numbers are those from one on that have something, in order
pub record AreHeldFrom (f : ℕ → Option Standing) (from : ℕ) (numbers : List ℕ) : Type 0 where
  pub in_order : AreRisingFrom from numbers
  pub all_held : (n : ℕ) → from ≤ n → IsSome (f n) → Contains numbers n
  pub only_held : All (λ n. IsSome (f n)) numbers

-- no number below that one has something
abbrev pub NoneBelow : (ℕ → Option Standing) → ℕ → Type 0
NoneBelow f from = (n : ℕ) → n < from → f n ≡ None

-- it is how many numbers from one on have something
pub record IsHeldCount (f : ℕ → Option Standing) (from held : ℕ) : Type 0 where
  pub numbers : List ℕ
  pub are_held : AreHeldFrom f from numbers
  pub counted : held ≡ length numbers

-- the report is true of what stands in an agreed series: its name, its first number, the first
-- number that has nothing, the greatest that has something, how many from the next on have
-- something, and the numbers up to the greatest that have nothing
pub record IsGapReport (f : ℕ → Option Standing) (a : Agreement) (report : GapReport) : Type 0 where
  pub of_series : report.series ≡ a.name
  pub is_first : report.first ≡ a.first
  pub is_next : IsNext f a.first report.next
  pub is_greatest : IsGreatest f report.greatest
  pub is_held : IsHeldCount f report.next report.held
  pub in_order : AreRangesFrom a.first report.missing
  pub all_lacking : (n : ℕ) → a.first ≤ n → IsUpTo n report.greatest → f n ≡ None
      → IsInRanges n report.missing
  pub only_lacking : (n : ℕ) → IsInRanges n report.missing
      → (a.first ≤ n) × IsUpTo n report.greatest × (f n ≡ None)
