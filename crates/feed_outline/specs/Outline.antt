-- A tree as a list of lines, each indented below the one that it belongs to.
use Rattle.std.specs.Prelude.{ℕ, suc, List, [], ◌∷◌, ◌++◌}
use Rattle.feed_outline.specs.Nodes.{Nodes, no_nodes, node, Tag}

-- an element: how deep it is, its reference name, its tag and its text
pub record Line : Type 0 where
  pub depth : ℕ
  pub name : List ℕ
  pub tag : Tag
  pub text : List ℕ

abbrev pub line : ℕ → List ℕ → Tag → List ℕ → Line
line depth name tag text = record { depth = depth; name = name; tag = tag; text = text }

-- the elements as lines, each with its depth, in the order in which they begin
abbrev pub outline : ℕ → Nodes → List Line
outline depth no_nodes = []
outline depth (node name tag text below rest) =
    line depth name tag text ∷ (outline (suc depth) below ++ outline depth rest)

-- a child of the root by itself, with all that is in it
abbrev pub part : List ℕ → Tag → List ℕ → Nodes → List Line
part name tag text below = line 0 name tag text ∷ outline 1 below

-- the elements in the root, each by itself, in order
abbrev pub parts_of : Nodes → List (List Line)
parts_of no_nodes = []
parts_of (node name tag text below rest) = part name tag text below ∷ parts_of rest
