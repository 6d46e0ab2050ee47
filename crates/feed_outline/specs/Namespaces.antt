-- Which namespace an element is in, as Namespaces in XML 1.0 says.
use Rattle.std.specs.Prelude.{ℕ, ◌==◌, List, [], ◌∷◌, Option, Some, None, suc, codes, drop, take}
use Rattle.std.specs.Prelude.{if◌then◌else◌, position, option_map, unwrap_or}
use Rattle.std.specs.List.{filter_map, find}
use Rattle.std.specs.Option.{option_or}
use Rattle.std.specs.Str.{bytes_eq}
use Rattle.feed_xml.specs.Grammar.{Attribute}
use Rattle.feed_xml.specs.Values.{normalized}

-- ---- names

module _ (name : List ℕ) where
  abbrev pub colon : Option ℕ
  colon = position (λ b. b == 58) name

  -- what stands before the first colon of a name, and behind it; a name without one has no prefix
  abbrev pub prefix_of : List ℕ
  prefix_of = unwrap_or (option_map (λ at. take at name) colon) []

  abbrev pub local_of : List ℕ
  local_of = unwrap_or (option_map (λ at. drop (suc at) name) colon) name

-- ---- declarations

-- A prefix and the address that it is declared to stand for; a name without a colon has the empty
-- prefix, and so the default namespace
pub record Binding : Type 0 where
  pub prefix : List ℕ
  pub address : List ℕ

-- the prefix that an attribute of this name declares
abbrev pub declared_prefix : List ℕ → Option (List ℕ)
declared_prefix name =
    if bytes_eq name (codes "xmlns") then Some []
    else if bytes_eq (prefix_of name) (codes "xmlns") then Some (local_of name)
    else None

-- what an attribute declares, if anything
abbrev pub binding_of : Attribute → Option Binding
binding_of a =
    option_map (λ prefix. record { prefix = prefix; address = normalized a.value })
    (declared_prefix a.name)

-- the declarations of a tag
abbrev pub bindings_of : List Attribute → List Binding
bindings_of attributes = filter_map binding_of attributes

module _ (prefix : List ℕ) where
  -- what a prefix stands for by the declarations of one tag
  abbrev pub address_among : List Binding → Option (List ℕ)
  address_among bindings =
      option_map (λ b. b.address) (find (λ b. bytes_eq b.prefix prefix) bindings)

  -- what a prefix stands for that nobody declares: `xml` has its address, and others have none
  abbrev pub undeclared : List ℕ
  undeclared =
      if bytes_eq prefix (codes "xml") then codes "http://www.w3.org/XML/1998/namespace" else []

-- ---- the elements around

-- An element that others stand in: its reference name, and the declarations of its tag
pub record Scope : Type 0 where
  pub name : List ℕ
  pub bindings : List Binding

abbrev pub scope : List ℕ → List Binding → Scope
scope name bindings = record { name = name; bindings = bindings }

-- what a prefix stands for by the nearest declaration of these elements, the innermost first
abbrev pub address_within : List ℕ → List Scope → Option (List ℕ)
address_within prefix [] = None
address_within prefix (s ∷ around) =
    option_or (address_among prefix s.bindings) (address_within prefix around)
