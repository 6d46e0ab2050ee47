-- Trees as lists, by which a proof tells them apart.
use Rattle.std.specs.Prelude.{◌≡◌, ℕ, List, [], ◌∷◌, ◌++◌, Option, Some, None, refl}
use Rattle.std.specs.Coded.{Coded, code_by, coded×, coded_list, coded_option, coded_ℕ}
use Rattle.std.proofs.Common.{◌∙◌, sym, ap, append-nil, append_assoc}
use Rattle.feed_outline.specs.Nodes.{Nodes, Tag, no_nodes, node}

-- an element by itself: its name, its tag and its text
abbrev pub Element : Type 0
Element = List ℕ × (Tag × List ℕ)

-- a tree as its elements in the order in which they begin, with a mark where none follows
abbrev pub marked : Nodes → List (Option Element)
marked no_nodes = None ∷ []
marked (node name tag text below rest) =
    Some (name, (tag, text)) ∷ (marked below ++ marked rest)

-- trees with an element put before the first two, as what stands in it and what follows it
abbrev pub with_first : Element → List Nodes → List Nodes
with_first e [] = []
with_first e (below ∷ []) = []
with_first e (below ∷ (rest ∷ trees)) = node e.0 e.1.0 e.1.1 below rest ∷ trees

-- the trees that elements with such marks tell, one after another
abbrev pub trees_of : List (Option Element) → List Nodes
trees_of [] = []
trees_of (None ∷ others) = no_nodes ∷ trees_of others
trees_of (Some e ∷ others) = with_first e (trees_of others)

abbrev pub first_tree : List Nodes → Nodes
first_tree [] = no_nodes
first_tree (tree ∷ trees) = tree

pub trees_told : (nodes : Nodes) (others : List (Option Element))
    → trees_of (marked nodes ++ others) ≡ nodes ∷ trees_of others
trees_told no_nodes others = refl
trees_told (node name tag text below rest) others =
    ap (with_first (name, (tag, text)))
    (ap trees_of (append_assoc (marked below) (marked rest) others)
    ∙ trees_told below (marked rest ++ others)
    ∙ ap (λ trees. below ∷ trees) (trees_told rest others))

pub tree_told : (nodes : Nodes) → first_tree (trees_of (marked nodes)) ≡ nodes
tree_told nodes =
    ap (λ es. first_tree (trees_of es)) (sym (append-nil (marked nodes)))
    ∙ ap first_tree (trees_told nodes [])

abbrev pub text_code : Coded (List ℕ)
text_code = coded_list coded_ℕ

abbrev pub tag_code : Coded Tag
tag_code =
    code_by (Option (List ℕ)) (coded_option text_code) (λ t. t.format)
    (λ c. record { format = c }) (λ _. refl)

abbrev pub nodes_code : Coded Nodes
nodes_code =
    code_by (List (Option Element))
    (coded_list (coded_option (coded× text_code (coded× tag_code text_code))))
    marked (λ es. first_tree (trees_of es)) tree_told
