-- No value in the JSON of an answer is a float.
use Rattle.std.proofs.Common.{◌≡◌, false, List, [], ◌∷◌, refl, Option, Some, None}
use Rattle.std.specs.Prelude.{map}
use Rattle.serde_json.specs.Data.{Data}
use Rattle.serde_json.specs.View.{items_of}
use Rattle.serde_json.specs.Written.{has_float, items_have_float}
use Rattle.desk_http.specs.Json.{or_null}

-- a list has none where none of its items has one
pub list_has_none : {A : Type 0} (f : A → Data) → ((x : A) → has_float (f x) ≡ false) → (xs : List A) → items_have_float (items_of (map f xs)) ≡ false
list_has_none f each [] = refl
list_has_none f each (x ∷ xs) = rw (each x, list_has_none f each xs) refl

-- nor has what may be null
pub null_has_none : {A : Type 0} (f : A → Data) → ((x : A) → has_float (f x) ≡ false) → (o : Option A) → has_float (or_null f o) ≡ false
null_has_none f each None = refl
null_has_none f each (Some x) = each x
