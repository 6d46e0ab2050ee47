-- The values of attributes, normalized.
use Rattle.std.specs.Prelude.{ℕ, ◌==◌, ◌&&◌, List, [], ◌∷◌, ◌++◌, Option, Some, None, if◌then◌else◌}
use Rattle.std.specs.Prelude.{option_map, unwrap_or}
use Rattle.feed_xml.specs.Distinct.{value_of}
use Rattle.feed_xml.specs.Grammar.{Attribute, begins, is_space}
use Rattle.feed_xml.specs.References.{reference_text}

-- a line end, CR LF too, and a tab are a space
abbrev pub spaced : ℕ → List ℕ → List ℕ
spaced b rest =
    if (b == 13) && begins (10 ∷ []) rest then []
    else if is_space b then 32 ∷ [] else b ∷ []

-- what is left of a value, normalized: behind the & of a reference and some of its body, or outside
-- of one; what a reference stands for, which may be nothing, stands in its place
unfoldable pub normalized_from : Option (List ℕ) → List ℕ → List ℕ
normalized_from None [] = []
normalized_from None (b ∷ value) =
    if b == 38 then normalized_from (Some []) value
    else spaced b value ++ normalized_from None value
normalized_from (Some body) [] = unwrap_or (reference_text body) []
normalized_from (Some body) (b ∷ value) =
    if b == 59 then unwrap_or (reference_text body) [] ++ normalized_from None value
    else normalized_from (Some (body ++ b ∷ [])) value

-- a value with a space for each line end and tab, and with what references stand for in their place
abbrev pub normalized : List ℕ → List ℕ
normalized value = normalized_from None value

-- the normalized value of the first attribute of a name
abbrev pub normalized_value_of : List ℕ → List Attribute → Option (List ℕ)
normalized_value_of name attributes = option_map normalized (value_of name attributes)
