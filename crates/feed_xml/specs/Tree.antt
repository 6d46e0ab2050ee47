-- What stands between a start tag and its end tag.
use Rattle.std.specs.Prelude.{ℕ, List, [], ◌∷◌, ◌++◌}
use Rattle.feed_xml.specs.Grammar.{Attribute, Token, declaration, doctype, start, end}

-- What stands in an element, as a tree
pub data Content : Type 0 where
  nothing : Content
  -- a token that is no tag, or an empty element, and what follows
  leaf : Token → Content → Content
  -- a name, attributes, white space, what stands in the element, the white space of its end tag,
  -- and what follows it
  element : List ℕ → List Attribute → List ℕ → Content → List ℕ → Content → Content

-- the tokens that a tree is made of, in order
abbrev pub tokens_of : Content → List Token
tokens_of nothing = []
tokens_of (leaf token rest) = token ∷ tokens_of rest
tokens_of (element name attributes space inside closing rest) =
    start name attributes space ∷ (tokens_of inside ++ end name closing ∷ tokens_of rest)

-- a leaf is no start tag and no end tag, and nothing that stands only before the root
abbrev pub IsLeaf : Token → Type 0
IsLeaf (declaration body) = ⊥
IsLeaf (doctype body) = ⊥
IsLeaf (start name attributes space) = ⊥
IsLeaf (end name space) = ⊥
IsLeaf other = Unit {0}

-- each leaf of the tree is a token that may be one
abbrev pub HasLeaves : Content → Type 0
HasLeaves nothing = Unit {0}
HasLeaves (leaf token rest) = IsLeaf token × HasLeaves rest
HasLeaves (element name attributes space inside closing rest) = HasLeaves inside × HasLeaves rest
