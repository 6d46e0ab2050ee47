-- What the tables keep of what stands at a number.
use Rattle.std.specs.Prelude.{◌≡◌, ◌≤◌, ℕ, Option, None, IfSome, ⊤}
use Rattle.onix_records.specs.ContentsText.{IsContents}
pub use Rattle.series_rules.specs.Listing.{standing_text}
use Rattle.series_rules.specs.declared.requests.Standing.{Standing}
use Rattle.series_rules.specs.declared.requests.Standing.TheVariants.{Message, Waived}

-- what stands can be read back from its text
abbrev pub IsReadable : Standing → Type 0
IsReadable (Message c) = IsContents c
IsReadable Waived = ⊤

-- the tables can keep what stands at each number of a series: it can be read back, and the numbers
-- have at most nine digits
pub record CanBeKept (f : ℕ → Option Standing) : Type 0 where
  pub readable : (n : ℕ) → IfSome (f n) IsReadable
  pub small : (n : ℕ) → 1000000000 ≤ n → f n ≡ None

-- what stands, where it can be read back, is told by its text
abbrev pub TextsTellApart : Type 0
TextsTellApart =
    (g h : Standing) → IsReadable g → IsReadable h → standing_text g ≡ standing_text h → g ≡ h
