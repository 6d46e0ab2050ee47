-- The fields of a record: which are wrong in themselves, and those that several rows have.
use Rattle.std.specs.Prelude.{ℕ, List, [], ◌∷◌, Bool, Option, Some, None, ◌&&◌, ◌||◌, ◌==◌, not}
use Rattle.std.specs.Prelude.{nat_le, nat_lt, length, option_map}
use Rattle.std.specs.List.{list_all}
use Rattle.onix_terms.specs.Code.{code2_of}
use Rattle.onix_terms.specs.Options.{◌>>=◌, nonempty}
use Rattle.onix_terms.specs.Territory.{countries_text, world_text}
use Rattle.onix_terms.specs.declared.party.Party.{Party}
use Rattle.onix_terms.specs.declared.territory.Territory.{Territory}

-- a byte below the space, or the delete: in UTF-8 each stands for the character of its number, and
-- for nothing else
abbrev pub is_control : ℕ → Bool
is_control b = nat_lt b 32 || (b == 127)

-- a text without control characters
abbrev pub has_no_control : List ℕ → Bool
has_no_control text = list_all (λ b. not (is_control b)) text

-- a field of at most 1,024 bytes and no control character
abbrev pub is_clean : List ℕ → Bool
is_clean field = nat_le (length field) 1024 && has_no_control field

-- the value of a text, or nothing if the text is empty
abbrev pub unless_empty : {A : Type 0} → List ℕ → Option A → Option (Option A)
unless_empty [] value = Some None
unless_empty (b ∷ bs) value = option_map Some value

-- a term, or nothing
abbrev pub optional : {A : Type 0} → (List ℕ → Option A) → List ℕ → Option (Option A)
optional term text = unless_empty text (term text)

-- the value of a text, or the default if the text is empty
abbrev pub value_or_default : {A : Type 0} → Option A → List ℕ → Option A → Option A
value_or_default default [] value = default
value_or_default default (b ∷ bs) value = value

-- a term, or the default if the text is empty
abbrev pub or_default : {A : Type 0} → (List ℕ → Option A) → Option A → List ℕ → Option A
or_default term default text = value_or_default default text (term text)

-- an identifier's type and its value, which is not empty
abbrev pub party_of : List ℕ → List ℕ → Option Party
party_of id_type id_value = do
  t ← code2_of id_type
  v ← nonempty id_value
  Some (record { id_type = t; id_value = v })

-- a party, or two empty fields
abbrev pub optional_party : List ℕ → List ℕ → Option (Option Party)
optional_party [] [] = Some None
optional_party id_type id_value = option_map Some (party_of id_type id_value)

-- How they are written.

-- a party's type and value, both empty if there is none
abbrev pub party_fields : Option Party → List (List ℕ)
party_fields None = [] ∷ [] ∷ []
party_fields (Some p) = p.id_type ∷ p.id_value ∷ []

-- CountriesIncluded, RegionsIncluded and CountriesExcluded
abbrev pub territory_fields : Territory → List (List ℕ)
territory_fields t = countries_text t.included ∷ world_text t.world ∷ countries_text t.excluded ∷ []
