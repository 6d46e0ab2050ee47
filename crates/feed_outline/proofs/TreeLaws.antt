-- A tree with a Header or Product that is too large.
use Rattle.std.proofs.Common.{◌≡◌, ℕ, ◌+◌, Bool, true, false, List, [], ◌∷◌, ◌++◌, Option, Some, None, Result, Ok, refl, sym, ap, ◌∙◌, append_assoc, fold}
use Rattle.std.specs.Prelude.{◌||◌, not}
use Rattle.std.specs.List.{list_all}
use Rattle.std.specs.Option.{option_or}
use Rattle.std.proofs.lemmas.Bool.{and_parts}
use Rattle.std.proofs.lemmas.List.Folds.{list_all-append}
use Rattle.std.proofs.lemmas.List.Sums.{fold-append}
use Rattle.feed_outline.specs.Names.{Word}
use Rattle.feed_xml.specs.Grammar.{Token, end}
use Rattle.feed_xml.specs.Tree.{Content, nothing, leaf, element, tokens_of}
use Rattle.feed_xml.specs.Trees.{IsRoot, IsTree}
use Rattle.feed_outline.specs.declared.dialect.Wrong.{Wrong}
use Rattle.feed_outline.specs.Dialect.{Dialect, counted}
use Rattle.feed_outline.specs.Namespaces.{Binding, scope, bindings_of}
use Rattle.feed_outline.specs.Faults.{IsTooLarge}
use Rattle.feed_outline.specs.private.Feed.{Feed, feeding, first_feed, feed, fits, handed, settled}
use Rattle.feed_outline.specs.Roots.{root_in, root_of}
use Rattle.feed_outline.specs.private.Growing.{growing, no_lines, open_at, opened, closed}
use Rattle.feed_outline.specs.Nodes.{Nodes, no_nodes, said, Tag, tag_of, is_known, leaf_nodes, nodes_in, with_node, within, direct_text}
use Rattle.feed_outline.specs.Outline.{Line, line, part}
use Rattle.feed_outline.specs.Sizes.{element_size, has_large, is_small, lines_size, nodes_size}
use Rattle.feed_outline.specs.Spaces.{collapsed}
use Rattle.feed_xml.proofs.KindLaws.{by_root}
use Rattle.feed_outline.proofs.FeedLaws.{misc_before, misc_root, part_ends, part_size, quiet_prolog, speaks_outside, tree_feeds}
use Rattle.feed_outline.proofs.InsideLaws.{IsClean, by_leaf, clean, inside_at, root_inside, passes}
use Rattle.feed_outline.proofs.LargeLaws.{part_large, stays_large}

-- one of the elements in the root that is too large is kept
abbrev Keeps : (vocabulary : List Word) {T : Type 0} → (T → List Line → T) → Dialect → Content → Type 0
Keeps vocabulary {T = T} after d c = (u : T) → has_large (nodes_in vocabulary d [] c) ≡ true → fits (fold (feed vocabulary after) (inside_at u d [] [] 0) (tokens_of c)).child ≡ false

leaf_kept : (vocabulary : List Word) {T : Type 0} (after : T → List Line → T) (t : T) (d : Dialect) (rest : Content) (o : Option (List ℕ)) (tag : Tag) (b : List Binding)
    → has_large (with_node o tag [] no_nodes (nodes_in vocabulary d [] rest)) ≡ true → Keeps vocabulary after d rest
    → fits (fold (feed vocabulary after) (let g = opened 0 o tag b no_lines in settled after (feeding t (Some (Ok d)) g true) (closed g.passed g)) (tokens_of rest)).child ≡ false
leaf_kept vocabulary after t d rest None tag b large later = later t large
leaf_kept vocabulary {T = T} after t d rest (Some name) tag b large later = go (is_small (element_size tag [] + 0)) refl large
  where
    f : Feed T
    f = feeding t (Some (Ok d)) (growing (part name tag [] no_nodes) [] 0) true

    go : (b : Bool) → is_small (element_size tag [] + 0) ≡ b → (not b || has_large (nodes_in vocabulary d [] rest)) ≡ true
        → fits (fold (feed vocabulary after) (settled after f (growing (part name tag [] no_nodes) [] 0)) (tokens_of rest)).child ≡ false
    go true small e =
        let fit : is_small (lines_size (part name tag [] no_nodes)) ≡ true = ap is_small (part_size name tag [] no_nodes) ∙ small in
        rw (part_ends after t d (part name tag [] no_nodes) fit) (later (handed after t (part name tag [] no_nodes)) e)
    go false small e = stays_large vocabulary after (settled after f (growing (part name tag [] no_nodes) [] 0)) (tokens_of rest) (part_large after f name tag [] no_nodes small)

element_kept : (vocabulary : List Word) {T : Type 0} (after : T → List Line → T) (t : T) (d : Dialect) (name : List ℕ) (inside : Content) (closing : List ℕ) (rest : Content) (o : Option (List ℕ)) (tag : Tag) (b : List Binding) → IsClean inside
    → has_large (with_node o tag (collapsed (direct_text inside)) (nodes_in vocabulary d (within o b []) inside) (nodes_in vocabulary d [] rest)) ≡ true
    → Keeps vocabulary after d rest
    → fits (fold (feed vocabulary after) (feeding t (Some (Ok d)) (opened 0 o tag b no_lines) true) (tokens_of inside ++ end name closing ∷ tokens_of rest)).child ≡ false
element_kept vocabulary after t d name inside closing rest None tag b h large later =
    rw (fold-append (feed vocabulary after) (inside_at t d [] [] 1) (tokens_of inside) (end name closing ∷ tokens_of rest)
    ∙ ap (λ f. fold (feed vocabulary after) f (end name closing ∷ tokens_of rest)) (passes vocabulary after t d [] [] 0 inside h))
    (later t large)
element_kept vocabulary {T = T} after t d name inside closing rest (Some m) tag b h large later = go (is_small (element_size tag text + nodes_size below)) refl large
  where
    text : List ℕ
    text = collapsed (direct_text inside)

    below : Nodes
    below = nodes_in vocabulary d (scope m b ∷ []) inside

    f : Feed T
    f = feeding t (Some (Ok d)) (growing (part m tag text below) [] 0) true

    runs : fold (feed vocabulary after) (feeding t (Some (Ok d)) (opened 0 (Some m) tag b no_lines) true) (tokens_of inside ++ end name closing ∷ tokens_of rest)
        ≡ fold (feed vocabulary after) (settled after f (growing (part m tag text below) [] 0)) (tokens_of rest)
    runs =
        fold-append (feed vocabulary after) (inside_at t d (line 0 m tag [] ∷ []) (open_at 0 false (scope m b) ∷ []) 0) (tokens_of inside) (end name closing ∷ tokens_of rest)
        ∙ ap (λ f. fold (feed vocabulary after) f (end name closing ∷ tokens_of rest)) (root_inside vocabulary after t d m tag b inside h)

    go : (small : Bool) → is_small (element_size tag text + nodes_size below) ≡ small → (not small || has_large (nodes_in vocabulary d [] rest)) ≡ true
        → fits (fold (feed vocabulary after) (feeding t (Some (Ok d)) (opened 0 (Some m) tag b no_lines) true) (tokens_of inside ++ end name closing ∷ tokens_of rest)).child ≡ false
    go true small e =
        let fit : is_small (lines_size (part m tag text below)) ≡ true = ap is_small (part_size m tag text below) ∙ small in
        rw (runs ∙ ap (λ f. fold (feed vocabulary after) f (tokens_of rest)) (part_ends after t d (part m tag text below) fit)) (later (handed after t (part m tag text below)) e)
    go false small e = rw runs (stays_large vocabulary after (settled after f (growing (part m tag text below) [] 0)) (tokens_of rest) (part_large after f m tag text below small))

root_kept : (vocabulary : List Word) {T : Type 0} (after : T → List Line → T) (t : T) (d : Dialect) (c : Content) → IsClean c → has_large (nodes_in vocabulary d [] c) ≡ true
    → fits (fold (feed vocabulary after) (inside_at t d [] [] 0) (tokens_of c)).child ≡ false
root_kept vocabulary after t d nothing h large = absurd cc
root_kept vocabulary after t d (leaf token rest) h large =
    by_leaf (λ token. is_known token ≡ true → has_large (leaf_nodes vocabulary d [] token (nodes_in vocabulary d [] rest)) ≡ true
    → fits (fold (feed vocabulary after) (feed vocabulary after (inside_at t d [] [] 0) token) (tokens_of rest)).child ≡ false)
    (λ token s k large. rw (speaks_outside vocabulary after t d token s.says k) (root_kept vocabulary after t d rest h.2 (ap has_large (sym (s.alone vocabulary d [] (nodes_in vocabulary d [] rest))) ∙ large)))
    (λ name attributes space k large.
    leaf_kept vocabulary after t d rest (counted vocabulary d [] name (bindings_of attributes)) (tag_of attributes) (bindings_of attributes) large (λ u e. root_kept vocabulary after u d rest h.2 e))
    token h.0 h.1 large
root_kept vocabulary after t d (element name attributes space inside closing rest) h large =
    element_kept vocabulary after t d name inside closing rest (counted vocabulary d [] name (bindings_of attributes)) (tag_of attributes) (bindings_of attributes) h.0 large
    (λ u e. root_kept vocabulary after u d rest h.1 e)

-- ---- a document

-- what of a tree stands in its root is fed, and something behind it
abbrev Runs : (vocabulary : List Word) {T : Type 0} → (T → List Line → T) → T → Dialect → List Token → Content → Type 0
Runs vocabulary after t d tokens inside =
    (tail : List Token) × (fold (feed vocabulary after) (first_feed t) tokens ≡ fold (feed vocabulary after) (fold (feed vocabulary after) (inside_at t d [] [] 0) (tokens_of inside)) tail)

root_runs : (vocabulary : List Word) {T : Type 0} (after : T → List Line → T) (t : T) (d : Dialect) (root behind : List Token) (name : List ℕ) (inside : Content) → IsRoot root name inside
    → root_of (root ++ behind) ≡ Some (Ok d) → Runs vocabulary after t d (root ++ behind) inside
root_runs vocabulary after t d root behind name inside =
    by_root name inside (λ root. root_of (root ++ behind) ≡ Some (Ok d) → Runs vocabulary after t d (root ++ behind) inside)
    (λ n attributes space tokens r e. (
      end name r.1.0 ∷ behind,
      ap (λ o. fold (feed vocabulary after) (feeding t o no_lines true) (tokens ++ behind)) e
          ∙ ap (λ ts. fold (feed vocabulary after) (inside_at t d [] [] 0) (ts ++ behind)) r.1.1
          ∙ ap (fold (feed vocabulary after) (inside_at t d [] [] 0)) (append_assoc (tokens_of inside) (end name r.1.0 ∷ []) behind)
          ∙ fold-append (feed vocabulary after) (inside_at t d [] [] 0) (tokens_of inside) (end name r.1.0 ∷ behind),
    ))
    (λ n attributes space tokens r e. (
      behind,
      ap (λ o. fold (feed vocabulary after) (feeding t o no_lines true) (tokens ++ behind)) e
          ∙ ap (λ ts. fold (feed vocabulary after) (inside_at t d [] [] 0) (ts ++ behind)) r.2
          ∙ ap (λ c. fold (feed vocabulary after) (fold (feed vocabulary after) (inside_at t d [] [] 0) (tokens_of c)) behind) (sym r.1),
    )) root

tree_runs : (vocabulary : List Word) {T : Type 0} (after : T → List Line → T) (t : T) (d : Dialect) (tokens : List Token) (name : List ℕ) (inside : Content) → IsTree tokens name inside
    → root_of tokens ≡ Some (Ok d) → Runs vocabulary after t d tokens inside
tree_runs vocabulary after t d tokens name inside tree e =
    let root = tree.root ++ tree.behind in
    let before = quiet_prolog tree.before tree.prolog in
    let told : root_of root ≡ Some (Ok d) = sym (misc_root tree.before root before) ∙ ap root_of (sym tree.parts) ∙ e in
    let r = root_runs vocabulary after t d tree.root tree.behind name inside tree.is_root told in (
      r.0,
      ap (fold (feed vocabulary after) (first_feed t)) tree.parts
          ∙ fold-append (feed vocabulary after) (first_feed t) tree.before root
          ∙ ap (λ f. fold (feed vocabulary after) f root) (misc_before vocabulary after t tree.before before)
          ∙ r.1,
    )

tokens_inside : (tokens : List Token) (name : List ℕ) (inside : Content) → IsTree tokens name inside → list_all is_known tokens ≡ true → list_all is_known (tokens_of inside) ≡ true
tokens_inside tokens name inside tree k =
    by_root name inside (λ root. list_all is_known root ≡ true → list_all is_known (tokens_of inside) ≡ true)
    (λ n attributes space tokens r k. (and_parts (list_all is_known (tokens_of inside)) (list_all is_known (end name r.1.0 ∷ [])) (sym (list_all-append is_known (tokens_of inside) (end name r.1.0 ∷ [])) ∙ ap (list_all is_known) (sym r.1.1) ∙ k)).0)
    (λ n attributes space tokens r k. ap (λ c. list_all is_known (tokens_of c)) r.1)
    tree.root tree.is_root
    (and_parts (list_all is_known tree.root) (list_all is_known tree.behind) (sym (list_all-append is_known tree.root tree.behind)
    ∙ (and_parts (list_all is_known tree.before) (list_all is_known (tree.root ++ tree.behind)) (sym (list_all-append is_known tree.before (tree.root ++ tree.behind)) ∙ ap (list_all is_known) (sym tree.parts) ∙ k)).1)).0

pub tree_kept : (vocabulary : List Word) {T : Type 0} (after : T → List Line → T) (t : T) (d : Dialect) (tokens : List Token) (name : List ℕ) (inside : Content) → IsTree tokens name inside
    → root_of tokens ≡ Some (Ok d) → list_all is_known tokens ≡ true → has_large (nodes_in vocabulary d [] inside) ≡ true
    → fits (fold (feed vocabulary after) (first_feed t) tokens).child ≡ false
tree_kept vocabulary after t d tokens name inside tree e k large =
    let r = tree_runs vocabulary after t d tokens name inside tree e in
    let c = clean inside tree.leaves (tokens_inside tokens name inside tree k) in
    rw r.1 (stays_large vocabulary after (fold (feed vocabulary after) (inside_at t d [] [] 0) (tokens_of inside)) r.0 (root_kept vocabulary after t d inside c large))

-- ---- tokens that a tree begins with

pub root_front : (tokens more : List Token) (r : Result Dialect Wrong) → root_of tokens ≡ Some r → root_of (tokens ++ more) ≡ Some r
root_front [] more r e = absurd cc
root_front (token ∷ tokens) more r e = go (root_in (said token)) e (root_front tokens more r)
  where
    go : (o : Option (Result Dialect Wrong)) → option_or o (root_of tokens) ≡ Some r → (root_of tokens ≡ Some r → root_of (tokens ++ more) ≡ Some r) → option_or o (root_of (tokens ++ more)) ≡ Some r
    go None e later = later e
    go (Some s) e later = e

pub is_large : (vocabulary : List Word) {T : Type 0} (after : T → List Line → T) (t : T) (d : Dialect) (tokens : List Token) (rest : List ℕ) → root_of tokens ≡ Some (Ok d)
    → list_all is_known tokens ≡ true → fits (fold (feed vocabulary after) (first_feed t) tokens).child ≡ false → IsTooLarge vocabulary tokens rest
is_large vocabulary after t d tokens rest e known large = (d, e, known, λ more name inside tree k. go more name inside tree k (has_large (nodes_in vocabulary d [] inside)) refl)
  where
    go : (more : List Token) (name : List ℕ) (inside : Content) → IsTree (tokens ++ more) name inside → list_all is_known (tokens ++ more) ≡ true → (b : Bool) → has_large (nodes_in vocabulary d [] inside) ≡ b → has_large (nodes_in vocabulary d [] inside) ≡ true
    go more name inside tree k true h = h
    go more name inside tree k false h =
        let all = tree_feeds vocabulary after t d (tokens ++ more) name inside tree (root_front tokens more (Ok d) e) k h in
        let whole : fits (fold (feed vocabulary after) (first_feed t) (tokens ++ more)).child ≡ false =
        rw (fold-append (feed vocabulary after) (first_feed t) tokens more) (stays_large vocabulary after (fold (feed vocabulary after) (first_feed t) tokens) more large) in
        absurd (cc (sym whole ∙ ap (λ f. fits f.child) all))
