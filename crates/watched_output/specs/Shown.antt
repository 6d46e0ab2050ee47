-- What a line of a terminal shows of a text.
use Rattle.std.specs.Prelude.{ℕ, Bool, true, false, ◌==◌, ◌++◌, List}
use Rattle.std.specs.Prelude.{codes, encode_utf8, flat_map, if◌then◌else◌, length, nat_le, take}
use Rattle.ucd_category.specs.GeneralCategory.{general_category}
use Rattle.ucd_category.specs.declared.GeneralCategory.{GeneralCategory}
use Rattle.ucd_category.specs.declared.GeneralCategory.TheVariants as category

-- whether a character of a category stands on a line as it is
abbrev pub stands : GeneralCategory → ℕ → Bool
stands category.Control c = false
stands category.Format c = false
stands category.Surrogate c = false
stands category.PrivateUse c = false
stands category.Unassigned c = false
stands category.LineSeparator c = false
stands category.ParagraphSeparator c = false
stands category.SpaceSeparator c = c == 32
stands _ c = true

abbrev pub is_printable : ℕ → Bool
is_printable c = stands (general_category c) c

-- a character as it is shown: U+FFFD in place of one that moves or changes what stands on the line
abbrev pub shown_char : ℕ → ℕ
shown_char c = if is_printable c then c else 0xFFFD

abbrev pub shown_chars : List ℕ → List ℕ
shown_chars cs = flat_map (λ c. encode_utf8 (shown_char c)) cs

-- so many of these characters at most, and two points where there are more
abbrev pub shown : ℕ → List ℕ → List ℕ
shown most cs =
    if nat_le (length cs) most then shown_chars cs
    else shown_chars (take most cs) ++ codes ".."
