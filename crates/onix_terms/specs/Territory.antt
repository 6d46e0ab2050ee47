-- Territories: which texts write one, and which countries lie in it.
use Rattle.std.specs.Prelude.{ℕ, List, [], ◌∷◌, Bool, true, false, Option, Some, None, ◌&&◌, ◌||◌}
use Rattle.std.specs.Prelude.{◌==◌, fold, if◌then◌else◌, option_map, Result, Ok, Err, ◌≡◌, ◌⊎◌}
use Rattle.std.specs.Prelude.{length, codes, Contains, IsTrue, nat_lt}
use Rattle.std.specs.Char.{is_ascii_uppercase}
use Rattle.std.specs.Cmp.Lexicographic.{slice_cmp}
use Rattle.std.specs.List.{AllPairs, filter, join_with_byte, slice_split}
use Rattle.std.specs.Ordering.{is_lt, nat_cmp}
use Rattle.std.specs.Str.{bytes_eq}
pub use Rattle.onix_terms.specs.Options.{◌>>=◌, nonempty}
use Rattle.onix_terms.specs.declared.territory.Territory.{Territory}
use Rattle.onix_terms.specs.declared.territory.TermFault.{TermFault}
use Rattle.onix_terms.specs.declared.territory.TermFault.TheVariants as fault

-- a code ends at a space or at the end
abbrev pub ends_code : List ℕ → Bool
ends_code [] = true
ends_code (b ∷ rest) = b == 32

-- the codes of a text, in the order in which they stand: two letters each, with spaces between
-- them and at the ends
unfoldable pub codes_in : List ℕ → Option (List (List ℕ))
codes_in [] = Some []
codes_in (a ∷ []) = if a == 32 then Some [] else None
codes_in (a ∷ b ∷ rest) =
    if a == 32 then codes_in (b ∷ rest)
    else if is_ascii_uppercase a && is_ascii_uppercase b && ends_code rest
    then option_map (λ codes. (a ∷ b ∷ []) ∷ codes) (codes_in rest)
    else None

-- x comes before y in the order of bytes
abbrev pub comes_before : List ℕ → List ℕ → Bool
comes_before x y = is_lt (slice_cmp nat_cmp x y)

-- a code in its place among codes in order, once
unfoldable pub with_code : List (List ℕ) → List ℕ → List (List ℕ)
with_code [] code = code ∷ []
with_code (x ∷ xs) code =
    if bytes_eq code x then x ∷ xs
    else if comes_before code x then code ∷ x ∷ xs
    else x ∷ with_code xs code

-- codes in order, without repeats
abbrev pub in_order : List (List ℕ) → List (List ℕ)
in_order codes = fold with_code [] codes

-- each code comes before all that stand after it, so none stands there twice
abbrev pub IsInOrder : List (List ℕ) → Type 0
IsInOrder codes = AllPairs (λ x y. IsTrue (comes_before x y)) codes

-- the countries of a field that is empty or has a code
abbrev pub countries_of : List ℕ → Option (List (List ℕ))
countries_of [] = Some []
countries_of (b ∷ bs) = option_map in_order (codes_in (b ∷ bs)) >>= nonempty

-- the words of a text: what stands between its spaces
abbrev pub words_of : List ℕ → List (List ℕ)
words_of text = filter (λ word. nat_lt 0 (length word)) (slice_split (λ b. b == 32) text)

-- codes with one space between them
abbrev pub countries_text : List (List ℕ) → List ℕ
countries_text codes = join_with_byte 32 codes

-- a letter A to Z or a space
abbrev pub is_letter_or_space : ℕ → Bool
is_letter_or_space b = is_ascii_uppercase b || (b == 32)

-- whether a field of regions names the world
abbrev pub world_of : List ℕ → Option Bool
world_of [] = Some false
world_of (b ∷ bs) = if bytes_eq (b ∷ bs) (codes "WORLD") then Some true else None

-- the field of regions of a territory
abbrev pub world_text : Bool → List ℕ
world_text world = if world then codes "WORLD" else []

-- the territory of CountriesIncluded, RegionsIncluded and CountriesExcluded. It is the world too
-- if nothing is included
abbrev pub territory_of : List ℕ → List ℕ → List ℕ → Option Territory
territory_of included regions excluded = do
  i ← countries_of included
  w ← world_of regions
  e ← countries_of excluded
  Some (record {
    included = i;
    world = w || ((length included == 0) && (length regions == 0));
    excluded = e;
  })

-- not excluded, and either the territory is the world or it includes the country
abbrev pub IsIn : List ℕ → Territory → Type 0
IsIn country t = (Contains t.excluded country → ⊥) × (IsTrue t.world ⊎ Contains t.included country)

-- a call gave what reading gives, unless memory ran out
abbrev pub Gives : {A : Type 0} → Result A TermFault → Option A → Type 0
Gives (Ok x) read = read ≡ Some x
Gives (Err fault.NotATerm) read = read ≡ None
Gives (Err fault.Memory) read = Unit {0}
