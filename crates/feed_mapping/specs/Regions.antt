-- The regions that a text names.
use Rattle.std.specs.Prelude.{◌≡◌, ℕ, ◌+◌, Bool, true, false, ◌&&◌, ◌||◌, ◌==◌, not, List, [], ◌∷◌}
use Rattle.std.specs.Prelude.{Option, Some, None, if◌then◌else◌, codes, find, map, position}
use Rattle.std.specs.Prelude.{take, drop}
use Rattle.std.specs.Borrow.{Bor}
use Rattle.std.specs.Char.{is_ascii_digit, is_ascii_uppercase}
use Rattle.std.specs.List.{flat_map, list_all, list_any}
use Rattle.std.specs.Str.{bytes_eq}
use Rattle.feed_xml.specs.Grammar.{is_filled}
use Rattle.onix_terms.specs.Territory.{countries_text, words_of}

abbrev pub is_world : List ℕ → Bool
is_world region = bytes_eq region (codes "WORLD")

abbrev pub is_capital_or_digit : ℕ → Bool
is_capital_or_digit b = is_ascii_uppercase b || is_ascii_digit b

-- a part of a country: two letters A to Z, a hyphen, and one or more letters A to Z and digits, as
-- GB-NIR
abbrev pub is_part_of_country : List ℕ → Bool
is_part_of_country (a ∷ b ∷ c ∷ rest) =
    if (is_ascii_uppercase a && is_ascii_uppercase b) && ((c == 45) && is_filled rest)
    then list_all is_capital_or_digit rest else false
is_part_of_country other = false

-- two letters A to Z, which are no region but a country
abbrev pub is_two_letters : List ℕ → Bool
is_two_letters (a ∷ b ∷ []) = is_ascii_uppercase a && is_ascii_uppercase b
is_two_letters other = false

module _ (country : List ℕ) where
  -- the United Kingdom and Greece, as some write them by another code than that of ISO 3166
  abbrev pub is_other_name : Bool
  is_other_name = bytes_eq country (codes "UK") || bytes_eq country (codes "EL")

  abbrev pub country_code : List ℕ
  country_code =
      if bytes_eq country (codes "UK") then codes "GB"
      else if bytes_eq country (codes "EL") then codes "GR"
      else country

module _ (text : List ℕ) where
  -- whether WORLD is one of the regions
  abbrev pub names_world : Bool
  names_world = list_any is_world (words_of text)

  -- the first region that is neither a part of a country nor two letters
  abbrev pub region_of_no_country : Option (List ℕ)
  region_of_no_country =
      find (λ region. not (is_part_of_country region || is_two_letters region)) (words_of text)

  -- the first region that is not two letters
  abbrev pub first_region : Option (List ℕ)
  first_region = find (λ region. not (is_two_letters region)) (words_of text)

  -- the first region that is two letters
  abbrev pub two_letters_in : Option (List ℕ)
  two_letters_in = find is_two_letters (words_of text)

  -- countries with the codes of ISO 3166 in place of such names, and else as they stand
  abbrev pub countries_written : List ℕ
  countries_written =
      if list_any is_other_name (words_of text)
      then countries_text (map country_code (words_of text)) else text

-- ---- what is read of a text

-- each word behind a space
abbrev pub spaced : List (List ℕ) → List ℕ
spaced words = flat_map (λ word. 32 ∷ word) words

-- the codes of countries, each behind a space, where such a name is one of them
abbrev pub IsRenamed : Option (List ℕ) → List ℕ → Type 0
IsRenamed None text = list_any is_other_name (words_of text) ≡ false
IsRenamed (Some written) text =
    (list_any is_other_name (words_of text) ≡ true)
    × (written ≡ spaced (map country_code (words_of text)))

-- where a text has its first space
abbrev pub first_space : List ℕ → Option ℕ
first_space text = position (λ b. b == 32) text

-- what stands before that space, and behind it
abbrev pub front_to : Option ℕ → List ℕ → List ℕ
front_to None text = text
front_to (Some at) text = take at text

abbrev pub rest_from : Option ℕ → List ℕ → List ℕ
rest_from None text = []
rest_from (Some at) text = drop (at + 1) text

-- the first word of a text, and what stands behind it; nothing, where the text has none
abbrev pub IsNextWord : Option (Bor (List ℕ) × Bor (List ℕ)) → List ℕ → Type 0
IsNextWord None text = words_of text ≡ []
IsNextWord (Some x) text = words_of text ≡ x.0.now ∷ words_of x.1.now
