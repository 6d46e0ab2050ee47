-- The elements of one name in a composite, each with what stands in it.
use Prim.Native.String.{String}
use Rattle.std.specs.Prelude.{ℕ, List, [], ◌∷◌, Option, Some, None, if◌then◌else◌}
use Rattle.std.specs.Prelude.{codes, refl, unwrap_or}
use Rattle.std.specs.Coded.{Coded, code_by, coded×}
use Rattle.std.specs.Str.{bytes_eq}
use Rattle.feed_outline.specs.declared.line.Line.{Line}
use Rattle.feed_outline.specs.Composites.{text_in}
use Rattle.feed_outline.specs.Nodes.{Nodes, Tag, no_nodes, node}
use Rattle.feed_outline.specs.NodesCode.{nodes_code, tag_code, text_code}
use Rattle.feed_outline.specs.Views.{tag_view}

-- an element by itself: its reference name, its tag, which has its place, and its text
pub record Element : Type 0 where
  pub name : List ℕ
  pub tag : Tag
  pub text : List ℕ

-- an element and what stands in it
pub record Composite : Type 0 where
  pub element : Element
  pub below : Nodes

-- an element of this name, tag and text with what stands in it
abbrev pub composite : List ℕ → Tag → List ℕ → Nodes → Composite
composite name tag text below =
    record { element = record { name = name; tag = tag; text = text }; below = below }

-- the elements of this name, in order
abbrev pub composites : List ℕ → Nodes → List Composite
composites name no_nodes = []
composites name (node n tag text below rest) =
    if bytes_eq n name then composite n tag text below ∷ composites name rest
    else composites name rest

-- the first of a list, where it has one
abbrev pub first : {A : Type 0} → List A → Option A
first [] = None
first (x ∷ xs) = Some x

-- what stands in an element, and nothing where there is none
abbrev pub below_of : Option Composite → Nodes
below_of None = no_nodes
below_of (Some c) = c.below

-- the text of the first element of this name that has one, else the empty text
abbrev pub text_or_empty : List ℕ → Nodes → List ℕ
text_or_empty name nodes = unwrap_or (text_in name nodes) []

module _ (name : String) (nodes : Nodes) where
  -- the same of a name in letters
  abbrev pub text_at : List ℕ
  text_at = text_or_empty (codes name) nodes

  -- that text, where there is one
  abbrev pub some_at : Option (List ℕ)
  some_at = text_in (codes name) nodes

  -- the elements of such a name
  abbrev pub each_at : List Composite
  each_at = composites (codes name) nodes

  -- what stands in the first of them, and nothing where there is none
  abbrev pub below_at : Nodes
  below_at = below_of (first each_at)

-- what was read of some elements, and then what stands behind it; nothing, where nothing was read
abbrev pub with_others : {A : Type 0} → (Nodes → List A) → Option (A × Nodes) → List A
with_others each None = []
with_others each (Some x) = x.0 ∷ each x.1

-- ---- without where they lie in memory

-- a line, as the element that it begins
abbrev pub element_view : Line → Element
element_view l = record { name = l.name.now; tag = tag_view l; text = l.text.items }

-- an element is told by its name, its tag and its text
abbrev pub composite_code : Coded Composite
composite_code =
    code_by ((List ℕ × (Tag × List ℕ)) × Nodes)
    (coded× (coded× text_code (coded× tag_code text_code)) nodes_code)
    (λ c. ((c.element.name, (c.element.tag, c.element.text)), c.below))
    (λ p. composite p.0.0 p.0.1.0 p.0.1.1 p.1) (λ _. refl)
