-- The lists of the names that HTML gives to characters, by their first letter.
use Rattle.std.specs.Prelude.{ℕ, ◌-◌, List, [], ◌∷◌, map, slice_index_or}
use Rattle.feed_xml.specs.declared.html_names.TheConstants.{NAMES}

-- of lists for the letters from A on the one of a letter
unfoldable pub list_of : List (List ℕ) → ℕ → List ℕ
list_of lists b = slice_index_or lists (b - 65) []

-- the list of the names with the first letter of this one
unfoldable pub html_names : List ℕ → List ℕ
html_names [] = []
html_names (b ∷ name) = list_of (map (λ list. list.now) NAMES) b
