-- An attribute without where it lies in memory.
use Rattle.std.specs.Prelude.{◌≡◌, ℕ, true, List, [], ◌∷◌, Option, Some, None}
use Rattle.std.specs.List.{flat_map, list_all}
use Rattle.std.specs.Borrow.{Bor}
use Rattle.feed_xml.specs.declared.attributes.Attribute.{Attribute}
use Rattle.feed_xml.specs.Grammar.{Attribute as Spelled, attribute_text, is_attribute}

abbrev pub attribute_view : Attribute → Spelled
attribute_view a = record {
  before = a.before.now;
  name = a.name.now;
  left = a.left.now;
  right = a.right.now;
  quote = a.quote;
  value = a.value.now;
}

-- the bytes are these attributes
pub record Spell (bytes : List ℕ) (list : List Spelled) : Type 0 where
  pub text : bytes ≡ flat_map attribute_text list
  pub each : list_all is_attribute list ≡ true

-- what was read is the first attribute of the list, and what is left the others; nothing, where
-- there is none
abbrev pub IsNext : Option (Attribute × Bor (List ℕ)) → List Spelled → Type 0
IsNext None list = list ≡ []
IsNext (Some x) list =
    (others : List Spelled) × (list ≡ attribute_view x.0 ∷ others) × Spell x.1.now others

-- the first of the list, and the others
abbrev pub IsSplit : Option (Attribute × List Spelled) → List Spelled → Type 0
IsSplit None list = list ≡ []
IsSplit (Some x) list = list ≡ attribute_view x.0 ∷ x.1
