-- The items of a TOML array, of which there is one or more.
use Rattle.std.proofs.Common.{◌≡◌, ◌<◌, List, [], ◌∷◌, length, Option, Some, refl, arith}
use Rattle.toml.specs.Data.{Data, Items, as_array}
use Rattle.toml.specs.View.{items_view}
use Rattle.toml.specs.declared.value.Value.{Value}
use Rattle.feed_terms.specs.TermsFile.{array_at, some_items}

-- items of which there are some
pub some_items-view : (values : List Value) → 0 < length values → some_items (items_view values) ≡ Some (items_view values)
some_items-view [] l = absurd (omega arith)
some_items-view (value ∷ rest) l = refl

-- an array of one or more
pub array_of_some : {A : Type 0} (read : Items → Option (List A)) (member : Option Data) (value : Data) (values : List Value) → Some value ≡ member → Some (items_view values) ≡ as_array value → 0 < length values
    → read (items_view values) ≡ array_at read member
array_of_some read member value values at is l = rw (← at, ← is, some_items-view values l) refl
