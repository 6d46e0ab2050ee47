-- The JSON of what answers are made of. The keys of each object stand in the order of their bytes.
use Prim.Native.String.{String}
use Rattle.std.specs.Prelude.{ℕ, ℤ, List, [], ◌∷◌, Option, codes, map}
use Rattle.std.specs.Option.{option_map_or}
use Rattle.serde_json.specs.Data.{Data, Members, array, null, no_members, number, object, put}
use Rattle.serde_json.specs.Data.{string, unsigned}
use Rattle.serde_json.specs.View.{items_of}
use Rattle.onix_terms.specs.Amount.{amount_text}
use Rattle.onix_terms.specs.Day.{day_text}

-- a whole number
abbrev pub count : ℕ → Data
count n = number (unsigned n)

-- an amount, as a text in three decimals
abbrev pub amount : ℕ → Data
amount a = string (amount_text a)

-- a day, as a text YYYYMMDD
abbrev pub day : ℤ → Data
day d = string (day_text d)

-- the JSON of what is there, or null where nothing is
abbrev pub or_null : {A : Type 0} → (A → Data) → Option A → Data
or_null f x = option_map_or f x null

-- a list of what each of these is
abbrev pub list_of : {A : Type 0} → (A → Data) → List A → Data
list_of f xs = array (items_of (map f xs))

-- members, each a key and what stands under it
abbrev pub Fields : Type 0
Fields = List (String × Data)

-- the same in the order of their keys
abbrev pub members : Fields → Members
members [] = no_members
members (field ∷ fields) = put (codes field.0) field.1 (members fields)

-- the object of these members
abbrev pub object_of : Fields → Data
object_of fields = object (members fields)

-- what is answered, with these members beside its name
abbrev pub answered : String → Fields → Data
answered name fields = object_of (("answer", string (codes name)) ∷ fields)

-- a refusal for that reason
abbrev pub refused : String → Fields → Data
refused reason fields = answered "refused" (("reason", string (codes reason)) ∷ fields)

-- a fault of storage of that kind
abbrev pub fault : List ℕ → Data
fault kind = answered "fault" (("reason", string kind) ∷ [])
