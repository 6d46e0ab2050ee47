-- The query of a request, as application/x-www-form-urlencoded: its names and values, and the value
-- of a key.
use Rattle.std.specs.Prelude.{ℕ, List, Option, Result, map, nat_eq}
use Rattle.std.specs.Cmp.Lexicographic.{pointwise}
use Rattle.std.specs.Str.Lossy.{utf8_lossy}
use Rattle.std.specs.Cow.{cow_str_bytes}
use Rattle.std.specs.declared.borrow.CowStr.{CowStr}
use Rattle.form_urlencoded.specs.Form.{decode, raw_pairs}
use Rattle.http_requests.specs.declared.refusal.Refusal.{Refusal}
use Rattle.http_requests.specs.declared.refusal.Refusal.TheVariants.{BadQuery}
use Rattle.http_requests.specs.Fields.{at_most_one, values_where}
use Rattle.http_requests.specs.Steps.{◌>>=◌, or_refuse}

-- the text that an encoded name or value stands for
abbrev pub decoded : List ℕ → List ℕ
decoded bytes = utf8_lossy (decode bytes)

-- the names and values of a query, in order
abbrev pub pairs_of : List ℕ → List (List ℕ × List ℕ)
pairs_of query = map (λ pair. (decoded pair.0, decoded pair.1)) (raw_pairs query)

-- the name and the value that two texts hold
abbrev pub texts : {A : Type 0} → CowStr A × CowStr A → List ℕ × List ℕ
texts pair = (cow_str_bytes pair.0, cow_str_bytes pair.1)

-- the value of a key that may be there once
unfoldable pub value_of : List ℕ → List (List ℕ × List ℕ)
    → Result (Option (List ℕ)) Refusal
value_of key pairs =
    at_most_one BadQuery (values_where (λ name. pointwise nat_eq name key) pairs)

-- the value of a key that has to be there once
unfoldable pub needed_value : List ℕ → List (List ℕ × List ℕ) → Result (List ℕ) Refusal
needed_value key pairs = value_of key pairs >>= or_refuse BadQuery
