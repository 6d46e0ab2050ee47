-- How deep the JSON of a list or of an optional value nests.
use Rattle.std.proofs.Common.{◌≡◌, ◌≤◌, ℕ, List, [], ◌∷◌, refl, Option, Some, None, arith}
use Rattle.std.specs.Prelude.{map}
use Rattle.serde_json.specs.Data.{Data, depth, items_depth}
use Rattle.serde_json.specs.View.{items_of}
use Rattle.desk_http.specs.Json.{or_null}

-- the items of a list nest no deeper than each of them
pub list_depth : {A : Type 0} (f : A → Data) (n : ℕ) → ((x : A) → depth (f x) ≤ n) → (xs : List A) → items_depth (items_of (map f xs)) ≤ n
list_depth f n each [] = omega arith
list_depth f n each (x ∷ xs) = omega (arith, each x, list_depth f n each xs)

-- nor what may be null
pub null_depth : {A : Type 0} (f : A → Data) → ((x : A) → depth (f x) ≡ 0) → (o : Option A) → depth (or_null f o) ≡ 0
null_depth f each None = refl
null_depth f each (Some x) = each x
