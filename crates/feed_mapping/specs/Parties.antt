-- The type and the value of an identifier of a sender, an addressee or a supplier.
use Rattle.std.specs.Prelude.{ℕ, Bool, ◌&&◌, ◌||◌, List}
use Rattle.std.specs.Str.{bytes_eq}
use Rattle.feed_xml.specs.Grammar.{is_filled}

-- the type and the value of an identifier, each empty where it has none
pub record Pair : Type 0 where
  pub id_type : List ℕ
  pub id_value : List ℕ

-- an identifier of this type and value
abbrev pub pair : List ℕ → List ℕ → Pair
pair id_type id_value = record { id_type = id_type; id_value = id_value }

-- one with neither is as none
abbrev pub is_there : Pair → Bool
is_there i = is_filled i.id_type || is_filled i.id_value

-- one with both is whole
abbrev pub is_whole : Pair → Bool
is_whole i = is_filled i.id_type && is_filled i.id_value

abbrev pub same_pair : Pair → Pair → Bool
same_pair i j = bytes_eq i.id_type j.id_type && bytes_eq i.id_value j.id_value
