-- Records and their fields, and how a record begins.
use Prim.Native.String.{String}
use Rattle.std.specs.Prelude.{ℕ, Bool, false, List, [], ◌∷◌, codes}
use Rattle.std.specs.List.{list_any}
use Rattle.std.specs.Str.{bytes_eq}

-- the fields of a record
abbrev pub Fields : Type 0
Fields = List (List ℕ)

-- records, one behind the other
abbrev pub Records : Type 0
Records = List Fields

-- the name is one of these
abbrev pub is_one_of : List String → List ℕ → Bool
is_one_of names name = list_any (λ text. bytes_eq name (codes text)) names

-- a record begins with one of these names
abbrev pub begins_with : List String → Fields → Bool
begins_with names [] = false
begins_with names (name ∷ fields) = is_one_of names name
