-- Data whose text reads as it, and the text of a list of such data.
use Rattle.std.specs.Prelude.{◌≡◌, ◌∷◌, ℕ, List, Some, codes}
use Rattle.std.specs.List.{flat_map}
use Rattle.json.specs.Tree.{HasNumbers}
use Rattle.serde_json.specs.Data.{Data, member, no_members, object, string}
use Rattle.serde_json.specs.Read.{of_json}
use Rattle.serde_json.specs.Written.{compact_text, outline}

-- each of its numbers is one in JSON, and it is read back
abbrev pub IsSound : Data → Type 0
IsSound d = HasNumbers (outline d) × (of_json (outline d) ≡ Some d)

-- the texts of items behind the first of a list
abbrev pub later_texts : {A : Type 0} → (A → Data) → List A → List ℕ
later_texts f xs = flat_map (λ x. 44 ∷ compact_text (f x)) xs

-- an answer about an article, with its offers
abbrev pub offers_json : List ℕ → List ℕ → Data → Data
offers_json answer isbn offers = object
    (member (codes "answer") (string answer)
    (member (codes "isbn") (string isbn)
    (member (codes "offers") offers
    no_members)))
