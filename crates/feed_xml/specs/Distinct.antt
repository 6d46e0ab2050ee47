-- Attributes by name, and how many a tag may have.
use Rattle.std.specs.Prelude.{option_map}
use Rattle.std.specs.Prelude.{ℕ, Bool, ◌||◌, nat_lt, List, [], length}
use Rattle.std.specs.Prelude.{Option}
use Rattle.std.specs.List.{find, flat_map}
use Rattle.std.specs.Str.{bytes_eq}
use Rattle.feed_xml.specs.Grammar.{Attribute, attribute_text, are_distinct, Token, start, empty}

-- the value of the first attribute of a name
abbrev pub value_of : List ℕ → List Attribute → Option (List ℕ)
value_of name list = option_map (λ a. a.value) (find (λ a. bytes_eq a.name name) list)

-- more than 64 attributes, or 65,536 bytes of them
abbrev pub are_many : List Attribute → Bool
are_many list = nat_lt 64 (length list) || nat_lt 65536 (length (flat_map attribute_text list))

-- the attributes of a tag
abbrev pub attributes_of : Token → List Attribute
attributes_of (start name attributes space) = attributes
attributes_of (empty name attributes space) = attributes
attributes_of other = []

module _ (token : Token) where
  -- a tag with more attributes, or longer ones, than are compared with each other
  abbrev pub is_large : Bool
  is_large = are_many (attributes_of token)

  -- no two attributes of a tag have one name
  abbrev pub has_distinct : Bool
  has_distinct = are_distinct (attributes_of token)
