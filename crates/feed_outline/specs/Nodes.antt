-- The elements of a message that count, as a tree.
use Rattle.std.specs.Prelude.{ℕ, List, [], ◌∷◌, ◌++◌, Option, Some, None, unwrap_or, Bool, true}
use Rattle.std.specs.Prelude.{is_some}
use Rattle.feed_xml.specs.Grammar.{Attribute, Token, raw, reference, bracket, cdata, start, empty}
use Rattle.feed_xml.specs.Grammar.{end}
use Rattle.feed_xml.specs.References.{reference_text}
use Rattle.feed_xml.specs.Sections.{bracket_text, section_text}
use Rattle.feed_xml.specs.Tree.{Content, nothing, leaf, element}
use Rattle.feed_outline.specs.Dialect.{Dialect, counted, format_of}
use Rattle.feed_outline.specs.Names.{Word}
use Rattle.feed_outline.specs.Namespaces.{Binding, Scope, scope, bindings_of}
use Rattle.feed_outline.specs.Spaces.{collapsed}

-- What the tag of an element tells: its attribute `dateformat`
pub record Tag : Type 0 where
  pub format : Option (List ℕ)

abbrev pub tag_of : List Attribute → Tag
tag_of attributes = record { format = format_of attributes }

-- The elements that count, as a tree
pub data Nodes : Type 0 where
  no_nodes : Nodes
  -- the reference name of an element, its tag, its text, the elements in it, and those that follow
  -- it
  node : List ℕ → Tag → List ℕ → Nodes → Nodes → Nodes

-- the characters that a token stands for
abbrev pub token_text : Token → List ℕ
token_text (raw b) = b ∷ []
token_text (bracket n) = bracket_text n
token_text (cdata n b) = section_text n b
token_text (reference body) = unwrap_or (reference_text body) []
token_text other = []

-- each reference stands for something
abbrev pub is_known : Token → Bool
is_known (reference body) = is_some (reference_text body)
is_known other = true

-- What a token is to the elements of a message: characters, which stand for something or not, the
-- tag of an element or of an empty one, or the end of one
pub data Said : Type 0 where
  speaks : List ℕ → Bool → Said
  opens : List ℕ → List Attribute → Said
  stands : List ℕ → List Attribute → Said
  closes : Said

abbrev pub said : Token → Said
said (start name attributes space) = opens name attributes
said (empty name attributes space) = stands name attributes
said (end name space) = closes
said token = speaks (token_text token) (is_known token)

-- the characters directly in an element: comments cut nothing, and those of elements in it are none
-- of its own
abbrev pub direct_text : Content → List ℕ
direct_text nothing = []
direct_text (leaf token rest) = token_text token ++ direct_text rest
direct_text (element name attributes space inside closing rest) = direct_text rest

abbrev pub with_node : Option (List ℕ) → Tag → List ℕ → Nodes → Nodes → Nodes
with_node None tag text below rest = rest
with_node (Some name) tag text below rest = node name tag text below rest

-- the elements around what stands in one, of which this name counts
abbrev pub within : Option (List ℕ) → List Binding → List Scope → List Scope
within None bindings around = around
within (Some name) bindings around = scope name bindings ∷ around

module _ (vocabulary : List Word) (d : Dialect) where
  abbrev pub leaf_nodes : List Scope → Token → Nodes → Nodes
  leaf_nodes around (empty name attributes space) rest =
      with_node (counted vocabulary d around name (bindings_of attributes)) (tag_of attributes) []
      no_nodes rest
  leaf_nodes around other rest = rest

  -- The elements that count of what stands below these elements, each only where all around it
  -- count: the others are passed over with all below them.
  abbrev pub nodes_in : List Scope → Content → Nodes
  nodes_in around nothing = no_nodes
  nodes_in around (leaf token rest) = leaf_nodes around token (nodes_in around rest)
  nodes_in around (element name attributes space inside closing rest) =
      let bindings = bindings_of attributes in
      let found = counted vocabulary d around name bindings in
      with_node found (tag_of attributes) (collapsed (direct_text inside))
      (nodes_in (within found bindings around) inside) (nodes_in around rest)
