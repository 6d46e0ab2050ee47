-- Text with each run of white space made one space, and none at the ends.
use Rattle.std.specs.Prelude.{ℕ, List, [], ◌∷◌, drop, Option, Some, None}
use Rattle.std.specs.List.{filter, flat_map, slice_split}
use Rattle.feed_xml.specs.Grammar.{is_filled, is_space}

-- the words of a text, between white space
abbrev pub words : List ℕ → List (List ℕ)
words text = filter is_filled (slice_split is_space text)

-- the words with one space between each two
unfoldable pub collapsed : List ℕ → List ℕ
collapsed text = drop 1 (flat_map (λ word. 32 ∷ word) (words text))

-- a text that has a character
abbrev pub filled : List ℕ → Option (List ℕ)
filled [] = None
filled (b ∷ text) = Some (b ∷ text)
