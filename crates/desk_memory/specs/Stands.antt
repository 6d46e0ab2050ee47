-- What the desk in memory keeps, against a list of requests.
use Rattle.std.specs.Prelude.{◌≡◌, ℕ, T, List, Option, Some, None, find, map, nat_eq, if◌then◌else◌}
use Rattle.std.specs.Option.{option_or}
use Rattle.std.specs.Cmp.Lexicographic.{slice_cmp}
use Rattle.std.specs.FinMap.{is_sorted}
use Rattle.std.specs.List.{position_or_len}
use Rattle.std.specs.Ordering.{is_lt, nat_cmp}
use Rattle.std.proofs.Common.{◌∙◌}
use Rattle.onix_records.specs.declared.agreements.Agreement.{Agreement}
use Rattle.series_rules.specs.Agreements.{agreements_of, named, has_name, AreDistinct}
use Rattle.series_rules.specs.Firsts.{first_at}
use Rattle.series_rules.specs.Content.{SameContent}
use Rattle.desk_memory.specs.KeptSeries.{stands_at}
use Rattle.series_rules.specs.Offers.{with_names}
use Rattle.desk_memory.specs.declared.series.Series.{Series}
use Rattle.series_rules.specs.declared.requests.Request.{Request}
use Rattle.series_rules.specs.declared.requests.Standing.{Standing}

-- the agreements of the series that are kept, in order
abbrev pub kept_agreements : List Series → List Agreement
kept_agreements kept = map (λ s. s.agreement) kept

-- the series of that name
abbrev pub series_named : List Series → List ℕ → Option Series
series_named kept name = find (λ s. has_name name s.agreement) kept

-- what stands at that number of a series
abbrev pub number_of_series : Option Series → ℕ → Option Standing
number_of_series None number = None
number_of_series (Some s) number = stands_at s.numbers number

-- what stands at that number of the series of that name
abbrev pub standing_of : List Series → List ℕ → ℕ → Option Standing
standing_of kept name number = number_of_series (series_named kept name) number

-- what stood, and h at the number n unless something stood there
abbrev pub with_standing : (ℕ → Option Standing) → ℕ → Standing → ℕ → Option Standing
with_standing f n h k = option_or (f k) (if nat_eq n k then Some h else None)

-- where a series of that name goes in order of name: before the first of a later name
abbrev pub place_in_order : List Series → List ℕ → ℕ
place_in_order kept name =
    position_or_len (λ s. is_lt (slice_cmp nat_cmp name s.agreement.name)) kept

-- their names are in ascending order
abbrev pub AreInOrder : List Series → Type 0
AreInOrder kept = T (is_sorted (slice_cmp nat_cmp) (with_names (kept_agreements kept)))

-- the series that are kept are what those requests come to: the same agreement under each name, and
-- the same at each number
pub record StandsFor (kept : List Series) (L : List Request) : Type 0 where
  pub agreed : (name : List ℕ) → named (kept_agreements kept) name ≡ named (agreements_of L) name
  pub distinct : AreDistinct (kept_agreements kept)
  pub in_order : AreInOrder kept
  pub firsts : (series : List ℕ) (number : ℕ)
      → standing_of kept series number ≡ first_at L series number

-- what is kept stands for every list that comes to the same
pub stands_by_content : (kept : List Series) (L M : List Request) → SameContent L M
    → StandsFor kept L
    → StandsFor kept M
stands_by_content kept L M same stands = record {
  agreed = λ name. stands.agreed name ∙ same.agreements name;
  distinct = stands.distinct;
  in_order = stands.in_order;
  firsts = λ s n. stands.firsts s n ∙ same.firsts s n;
}
