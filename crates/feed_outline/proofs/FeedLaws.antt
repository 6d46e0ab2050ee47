-- Feeding the tokens of a tree hands on the outlines of its Headers and Products.
use Rattle.std.proofs.Common.{◌≡◌, ℕ, zero, suc, ◌+◌, Bool, true, false, List, [], ◌∷◌, ◌++◌, map, Option, Some, None, Result, Ok, Err, refl, sym, ap, ◌∙◌, append_assoc, arith, fold}
use Rattle.std.specs.Prelude.{◌&&◌, ◌||◌, not}
use Rattle.std.specs.List.{AllByRecursion, list_all}
use Rattle.std.specs.Option.{option_or}
use Rattle.std.proofs.lemmas.Bool.{and_parts}
use Rattle.std.proofs.lemmas.List.Folds.{list_all-append}
use Rattle.std.proofs.lemmas.List.Sums.{fold-append}
use Rattle.feed_outline.specs.Names.{Word}
use Rattle.feed_xml.specs.Grammar.{Token, raw, cdata, comment, instruction, declaration, doctype, end}
use Rattle.feed_xml.specs.Tree.{Content, nothing, leaf, element, tokens_of, HasLeaves}
use Rattle.feed_xml.specs.Trees.{IsMisc, IsProlog, IsRoot, IsTree}
use Rattle.feed_outline.specs.declared.dialect.Wrong.{Wrong}
use Rattle.feed_outline.specs.Dialect.{Dialect, counted}
use Rattle.feed_outline.specs.Namespaces.{Binding, scope, bindings_of}
use Rattle.feed_outline.specs.Nodes.{Nodes, no_nodes, node, speaks, said, Tag, tag_of, token_text, is_known, direct_text, leaf_nodes, with_node, within, nodes_in}
use Rattle.feed_outline.specs.Outline.{Line, line, outline, part, parts_of}
use Rattle.feed_outline.specs.private.Growing.{Open, growing, open_at, no_lines, change, longer, waits_behind, opened, closed}
use Rattle.feed_outline.specs.Sizes.{element_size, has_large, is_small, lines_size, nodes_size}
use Rattle.feed_outline.specs.Spaces.{collapsed}
use Rattle.feed_outline.specs.private.Feed.{Feed, feeding, handed, settled, spoken, feed, feed_said, first_feed}
use Rattle.feed_outline.specs.Roots.{root_in, root_of}
use Rattle.feed_xml.proofs.KindLaws.{all_misc, all_prolog, by_misc, by_root}
use Rattle.feed_outline.proofs.ChangeLaws.{longer-nil, longer-append}
use Rattle.feed_outline.proofs.InsideLaws.{IsClean, by_leaf, clean, inside_at, root_inside, passes}

-- ---- sizes

pub lines_size-append : (x y : List Line) → lines_size (x ++ y) ≡ lines_size x + lines_size y
lines_size-append [] y = omega arith
lines_size-append (l ∷ x) y = omega (arith, lines_size-append x y)

outline_size : (depth : ℕ) (nodes : Nodes) → lines_size (outline depth nodes) ≡ nodes_size nodes
outline_size depth no_nodes = refl
outline_size depth (node name tag text below rest) =
    omega (arith, lines_size-append (outline (suc depth) below) (outline depth rest), outline_size (suc depth) below, outline_size depth rest)

pub part_size : (name : List ℕ) (tag : Tag) (text : List ℕ) (below : Nodes) → lines_size (part name tag text below) ≡ element_size tag text + nodes_size below
part_size name tag text below = ap (λ n. element_size tag text + n) (outline_size 1 below)

-- of an element and those that follow it none is too large
pub record AreSmall (name : List ℕ) (tag : Tag) (text : List ℕ) (below rest : Nodes) : Type 0 where
  pub first : is_small (lines_size (part name tag text below)) ≡ true
  pub others : has_large rest ≡ false

pub are_small : (name : List ℕ) (tag : Tag) (text : List ℕ) (below rest : Nodes) → has_large (node name tag text below rest) ≡ false → AreSmall name tag text below rest
are_small name tag text below rest e = go (is_small (element_size tag text + nodes_size below)) refl e
  where
    go : (b : Bool) → is_small (element_size tag text + nodes_size below) ≡ b → (not b || has_large rest) ≡ false → AreSmall name tag text below rest
    go true small none = record { first = ap is_small (part_size name tag text below) ∙ small; others = none }
    go false small none = absurd cc

-- ---- in the root

-- what is handed on of a child of the root
pub handed_first : {T : Type 0} (after : T → List Line → T) (t : T) (name : List ℕ) (tag : Tag) (text : List ℕ) (below rest : Nodes)
    → fold after (handed after t (part name tag text below)) (parts_of rest) ≡ fold after t (parts_of (node name tag text below rest))
handed_first after t name tag text below rest = refl

-- a child of the root that is not too large ends
pub part_ends : {T : Type 0} (after : T → List Line → T) (t : T) (d : Dialect) (lines : List Line) → is_small (lines_size lines) ≡ true
    → settled after (feeding t (Some (Ok d)) (growing lines [] 0) true) (growing lines [] 0) ≡ inside_at (handed after t lines) d [] [] 0
part_ends after t d lines e = rw e refl

root_leaf : (vocabulary : List Word) {T : Type 0} (after : T → List Line → T) (t : T) (d : Dialect) (rest : Content) (o : Option (List ℕ)) (tag : Tag) (b : List Binding)
    → has_large (with_node o tag [] no_nodes (nodes_in vocabulary d [] rest)) ≡ false
    → ((u : T) → has_large (nodes_in vocabulary d [] rest) ≡ false → fold (feed vocabulary after) (inside_at u d [] [] 0) (tokens_of rest) ≡ inside_at (fold after u (parts_of (nodes_in vocabulary d [] rest))) d [] [] 0)
    → fold (feed vocabulary after) (let g = opened 0 o tag b no_lines in settled after (feeding t (Some (Ok d)) g true) (closed g.passed g)) (tokens_of rest)
    ≡ inside_at (fold after t (parts_of (with_node o tag [] no_nodes (nodes_in vocabulary d [] rest)))) d [] [] 0
root_leaf vocabulary after t d rest None tag b small later = later t small
root_leaf vocabulary after t d rest (Some name) tag b small later =
    let parts = are_small name tag [] no_nodes (nodes_in vocabulary d [] rest) small in
    ap (λ f. fold (feed vocabulary after) f (tokens_of rest)) (part_ends after t d (part name tag [] no_nodes) parts.first)
    ∙ later (handed after t (part name tag [] no_nodes)) parts.others
    ∙ ap (λ u. inside_at u d [] [] 0) (handed_first after t name tag [] no_nodes (nodes_in vocabulary d [] rest))

root_element : (vocabulary : List Word) {T : Type 0} (after : T → List Line → T) (t : T) (d : Dialect) (name : List ℕ) (inside : Content) (closing : List ℕ) (rest : Content) (o : Option (List ℕ)) (tag : Tag) (b : List Binding) → IsClean inside
    → has_large (with_node o tag (collapsed (direct_text inside)) (nodes_in vocabulary d (within o b []) inside) (nodes_in vocabulary d [] rest)) ≡ false
    → ((u : T) → has_large (nodes_in vocabulary d [] rest) ≡ false → fold (feed vocabulary after) (inside_at u d [] [] 0) (tokens_of rest)
    ≡ inside_at (fold after u (parts_of (nodes_in vocabulary d [] rest))) d [] [] 0)
    → fold (feed vocabulary after) (feeding t (Some (Ok d)) (opened 0 o tag b no_lines) true) (tokens_of inside ++ end name closing ∷ tokens_of rest)
    ≡ inside_at (fold after t (parts_of (with_node o tag (collapsed (direct_text inside)) (nodes_in vocabulary d (within o b []) inside) (nodes_in vocabulary d [] rest)))) d [] [] 0
root_element vocabulary after t d name inside closing rest None tag b h small later =
    fold-append (feed vocabulary after) (inside_at t d [] [] 1) (tokens_of inside) (end name closing ∷ tokens_of rest)
    ∙ ap (λ f. fold (feed vocabulary after) f (end name closing ∷ tokens_of rest)) (passes vocabulary after t d [] [] 0 inside h)
    ∙ later t small
root_element vocabulary after t d name inside closing rest (Some m) tag b h small later =
    let below = nodes_in vocabulary d (scope m b ∷ []) inside in
    let others = nodes_in vocabulary d [] rest in
    let text = collapsed (direct_text inside) in
    let parts = are_small m tag text below others small in
    fold-append (feed vocabulary after) (inside_at t d (line 0 m tag [] ∷ []) (open_at 0 false (scope m b) ∷ []) 0) (tokens_of inside) (end name closing ∷ tokens_of rest)
    ∙ ap (λ f. fold (feed vocabulary after) f (end name closing ∷ tokens_of rest)) (root_inside vocabulary after t d m tag b inside h)
    ∙ ap (λ f. fold (feed vocabulary after) f (tokens_of rest)) (part_ends after t d (part m tag text below) parts.first)
    ∙ later (handed after t (part m tag text below)) parts.others
    ∙ ap (λ u. inside_at u d [] [] 0) (handed_first after t m tag text below others)

-- text in the root is passed over
pub speaks_outside : (vocabulary : List Word) {T : Type 0} (after : T → List Line → T) (t : T) (d : Dialect) (token : Token) → said token ≡ speaks (token_text token) (is_known token) → is_known token ≡ true
    → feed vocabulary after (inside_at t d [] [] 0) token ≡ inside_at t d [] [] 0
speaks_outside vocabulary after t d token says k =
    ap (feed_said vocabulary after (inside_at t d [] [] 0)) says ∙ ap (λ b. feeding t (Some (Ok d)) no_lines (b && true)) k

pub root_feeds : (vocabulary : List Word) {T : Type 0} (after : T → List Line → T) (t : T) (d : Dialect) (c : Content) → IsClean c → has_large (nodes_in vocabulary d [] c) ≡ false
    → fold (feed vocabulary after) (inside_at t d [] [] 0) (tokens_of c) ≡ inside_at (fold after t (parts_of (nodes_in vocabulary d [] c))) d [] [] 0
root_feeds vocabulary after t d nothing h small = refl
root_feeds vocabulary after t d (leaf token rest) h small =
    by_leaf (λ token. is_known token ≡ true → has_large (leaf_nodes vocabulary d [] token (nodes_in vocabulary d [] rest)) ≡ false
    → fold (feed vocabulary after) (feed vocabulary after (inside_at t d [] [] 0) token) (tokens_of rest) ≡ inside_at (fold after t (parts_of (leaf_nodes vocabulary d [] token (nodes_in vocabulary d [] rest)))) d [] [] 0)
    (λ token s k small.
    ap (λ f. fold (feed vocabulary after) f (tokens_of rest)) (speaks_outside vocabulary after t d token s.says k)
    ∙ root_feeds vocabulary after t d rest h.2 (ap has_large (sym (s.alone vocabulary d [] (nodes_in vocabulary d [] rest))) ∙ small)
    ∙ ap (λ n. inside_at (fold after t (parts_of n)) d [] [] 0) (sym (s.alone vocabulary d [] (nodes_in vocabulary d [] rest))))
    (λ name attributes space k small.
    root_leaf vocabulary after t d rest (counted vocabulary d [] name (bindings_of attributes)) (tag_of attributes) (bindings_of attributes) small (λ u none. root_feeds vocabulary after u d rest h.2 none))
    token h.0 h.1 small
root_feeds vocabulary after t d (element name attributes space inside closing rest) h small =
    root_element vocabulary after t d name inside closing rest (counted vocabulary d [] name (bindings_of attributes)) (tag_of attributes) (bindings_of attributes) h.0 small (λ u none. root_feeds vocabulary after u d rest h.1 none)

-- ---- around the root

-- what may stand outside of the root is text, in which all stands for something
pub record IsQuiet (token : Token) : Type 0 where
  pub says : said token ≡ speaks (token_text token) (is_known token)
  pub known : is_known token ≡ true

quiet : (token : Token) → said token ≡ speaks (token_text token) (is_known token) → is_known token ≡ true → IsQuiet token
quiet token says known = record { says = says; known = known }

quiet_misc : (token : Token) → IsMisc token → IsQuiet token
quiet_misc = by_misc IsQuiet (λ b h. quiet (raw b) refl refl) (λ body. quiet (comment body) refl refl) (λ body. quiet (instruction body) refl refl)

pub quiet_prolog : (tokens : List Token) → IsProlog tokens → AllByRecursion IsQuiet tokens
quiet_prolog = all_prolog IsQuiet quiet_misc (λ body. quiet (doctype body) refl refl) (λ body. quiet (declaration body) refl refl)

pub misc_before : (vocabulary : List Word) {T : Type 0} (after : T → List Line → T) (t : T) (tokens : List Token) → AllByRecursion IsQuiet tokens → fold (feed vocabulary after) (first_feed t) tokens ≡ first_feed t
misc_before vocabulary after t [] h = refl
misc_before vocabulary after t (token ∷ tokens) h = ap (λ f. fold (feed vocabulary after) f tokens) (ap (feed_said vocabulary after (first_feed t)) h.0.says ∙ ap (λ b. feeding t None no_lines (b && true)) h.0.known) ∙ misc_before vocabulary after t tokens h.1

misc_behind : (vocabulary : List Word) {T : Type 0} (after : T → List Line → T) (t : T) (d : Dialect) (tokens : List Token) → AllByRecursion IsQuiet tokens
    → fold (feed vocabulary after) (inside_at t d [] [] 0) tokens ≡ inside_at t d [] [] 0
misc_behind vocabulary after t d [] h = refl
misc_behind vocabulary after t d (token ∷ tokens) h = ap (λ f. fold (feed vocabulary after) f tokens) (speaks_outside vocabulary after t d token h.0.says h.0.known) ∙ misc_behind vocabulary after t d tokens h.1

pub misc_root : (before tokens : List Token) → AllByRecursion IsQuiet before → root_of (before ++ tokens) ≡ root_of tokens
misc_root [] tokens h = refl
misc_root (token ∷ before) tokens h = ap (λ s. option_or (root_in s) (root_of (before ++ tokens))) h.0.says ∙ misc_root before tokens h.1

-- ---- a document

started_root : (vocabulary : List Word) {T : Type 0} (after : T → List Line → T) (t : T) (d : Dialect) (name closing : List ℕ) (inside : Content) (behind : List Token)
    → IsClean inside → has_large (nodes_in vocabulary d [] inside) ≡ false → AllByRecursion IsQuiet behind
    → fold (feed vocabulary after) (inside_at t d [] [] 0) ((tokens_of inside ++ end name closing ∷ []) ++ behind)
    ≡ inside_at (fold after t (parts_of (nodes_in vocabulary d [] inside))) d [] [] 0
started_root vocabulary after t d name closing inside behind h small m =
    ap (fold (feed vocabulary after) (inside_at t d [] [] 0)) (append_assoc (tokens_of inside) (end name closing ∷ []) behind)
    ∙ fold-append (feed vocabulary after) (inside_at t d [] [] 0) (tokens_of inside) (end name closing ∷ behind)
    ∙ ap (λ f. fold (feed vocabulary after) f (end name closing ∷ behind)) (root_feeds vocabulary after t d inside h small)
    ∙ misc_behind vocabulary after (fold after t (parts_of (nodes_in vocabulary d [] inside))) d behind m

root_at : (vocabulary : List Word) {T : Type 0} (after : T → List Line → T) (t : T) (d : Dialect) (root behind : List Token) (name : List ℕ) (inside : Content) → IsRoot root name inside → HasLeaves inside → AllByRecursion IsQuiet behind
    → root_of (root ++ behind) ≡ Some (Ok d) → list_all is_known (root ++ behind) ≡ true → has_large (nodes_in vocabulary d [] inside) ≡ false
    → fold (feed vocabulary after) (first_feed t) (root ++ behind) ≡ inside_at (fold after t (parts_of (nodes_in vocabulary d [] inside))) d [] [] 0
root_at vocabulary after t d root behind name inside r h m =
    by_root name inside (λ root. root_of (root ++ behind) ≡ Some (Ok d) → list_all is_known (root ++ behind) ≡ true → has_large (nodes_in vocabulary d [] inside) ≡ false
    → fold (feed vocabulary after) (first_feed t) (root ++ behind) ≡ inside_at (fold after t (parts_of (nodes_in vocabulary d [] inside))) d [] [] 0)
    (λ n attributes space tokens r e k small.
    let all = (and_parts (list_all is_known tokens) (list_all is_known behind) (sym (list_all-append is_known tokens behind) ∙ k)).0 in
    let known = (and_parts (list_all is_known (tokens_of inside)) (list_all is_known (end name r.1.0 ∷ [])) (sym (list_all-append is_known (tokens_of inside) (end name r.1.0 ∷ [])) ∙ ap (list_all is_known) (sym r.1.1) ∙ all)).0 in
    ap (λ o. fold (feed vocabulary after) (feeding t o no_lines true) (tokens ++ behind)) e
    ∙ ap (λ ts. fold (feed vocabulary after) (inside_at t d [] [] 0) (ts ++ behind)) r.1.1
    ∙ started_root vocabulary after t d name r.1.0 inside behind (clean inside h known) small m)
    (λ n attributes space tokens r e k small.
    ap (λ o. fold (feed vocabulary after) (feeding t o no_lines true) (tokens ++ behind)) e
    ∙ ap (λ ts. fold (feed vocabulary after) (inside_at t d [] [] 0) (ts ++ behind)) r.2
    ∙ misc_behind vocabulary after t d behind m
    ∙ ap (λ c. inside_at (fold after t (parts_of (nodes_in vocabulary d [] c))) d [] [] 0) (sym r.1))
    root r

-- the tokens of a message hand on its parts
pub tree_feeds : (vocabulary : List Word) {T : Type 0} (after : T → List Line → T) (t : T) (d : Dialect) (tokens : List Token) (name : List ℕ) (inside : Content) → IsTree tokens name inside
    → root_of tokens ≡ Some (Ok d) → list_all is_known tokens ≡ true → has_large (nodes_in vocabulary d [] inside) ≡ false
    → fold (feed vocabulary after) (first_feed t) tokens
    ≡ inside_at (fold after t (parts_of (nodes_in vocabulary d [] inside))) d [] [] 0
tree_feeds vocabulary after t d tokens name inside tree e k small =
    let root = tree.root ++ tree.behind in
    let before = quiet_prolog tree.before tree.prolog in
    let behind = all_misc IsQuiet quiet_misc tree.behind tree.misc in
    let told : root_of root ≡ Some (Ok d) = sym (misc_root tree.before root before) ∙ ap root_of (sym tree.parts) ∙ e in
    let known : list_all is_known root ≡ true =
    (and_parts (list_all is_known tree.before) (list_all is_known root) (sym (list_all-append is_known tree.before root) ∙ ap (list_all is_known) (sym tree.parts) ∙ k)).1 in
    ap (fold (feed vocabulary after) (first_feed t)) tree.parts
    ∙ fold-append (feed vocabulary after) (first_feed t) tree.before root
    ∙ ap (λ f. fold (feed vocabulary after) f root) (misc_before vocabulary after t tree.before before)
    ∙ root_at vocabulary after t d tree.root tree.behind name inside tree.is_root tree.leaves behind told known small

-- ---- a stretch of text

pub text_feeds : (vocabulary : List Word) {T : Type 0} (after : T → List Line → T) (t : T) (root : Option (Result Dialect Wrong)) (lines : List Line) (opens : List Open) (passed : ℕ) (k : Bool) (run : List ℕ)
    → fold (feed vocabulary after) (feeding t root (growing lines opens passed) k) (map raw run) ≡ spoken root run true (feeding t root (growing lines opens passed) k)
text_feeds vocabulary after t None lines opens passed k [] = refl
text_feeds vocabulary after t None lines opens passed k (b ∷ run) = text_feeds vocabulary after t None lines opens passed k run
text_feeds vocabulary after t (Some (Err w)) lines opens passed k [] = refl
text_feeds vocabulary after t (Some (Err w)) lines opens passed k (b ∷ run) = text_feeds vocabulary after t (Some (Err w)) lines opens passed k run
text_feeds vocabulary after t (Some (Ok d)) lines opens (suc passed) k [] = refl
text_feeds vocabulary after t (Some (Ok d)) lines opens (suc passed) k (b ∷ run) = text_feeds vocabulary after t (Some (Ok d)) lines opens (suc passed) k run
text_feeds vocabulary after t (Some (Ok d)) lines [] zero k [] = refl
text_feeds vocabulary after t (Some (Ok d)) lines [] zero k (b ∷ run) = text_feeds vocabulary after t (Some (Ok d)) lines [] zero k run
text_feeds vocabulary after t (Some (Ok d)) lines (o ∷ more) zero k [] = ap (λ ls. feeding t (Some (Ok d)) (growing ls (o ∷ more) 0) k) (sym (longer-nil o.waits o.at lines))
text_feeds vocabulary after t (Some (Ok d)) lines (o ∷ more) zero k (b ∷ run) =
    let v = waits_behind o.waits (b ∷ []) in
    text_feeds vocabulary after t (Some (Ok d)) (change (longer o.waits (b ∷ [])) o.at lines) (open_at o.at v o.scope ∷ more) zero k run
    ∙ ap (λ ls. feeding t (Some (Ok d)) (growing ls (open_at o.at (waits_behind v run) o.scope ∷ more) 0) k) (sym (longer-append o.waits o.at (b ∷ []) run lines))

-- ---- a stretch of a section

-- each byte tells what one of a text does
as_text : (vocabulary : List Word) {T : Type 0} (after : T → List Line → T) (f : Feed T) (run : List ℕ)
    → fold (feed vocabulary after) f (map (cdata 0) run) ≡ fold (feed vocabulary after) f (map raw run)
as_text vocabulary after f [] = refl
as_text vocabulary after f (b ∷ run) = as_text vocabulary after (feed vocabulary after f (raw b)) run

pub section_feeds : (vocabulary : List Word) {T : Type 0} (after : T → List Line → T) (t : T) (root : Option (Result Dialect Wrong)) (lines : List Line) (opens : List Open) (passed : ℕ) (k : Bool) (run : List ℕ)
    → fold (feed vocabulary after) (feeding t root (growing lines opens passed) k) (map (cdata 0) run) ≡ spoken root run true (feeding t root (growing lines opens passed) k)
section_feeds vocabulary after t root lines opens passed k run =
    as_text vocabulary after (feeding t root (growing lines opens passed) k) run ∙ text_feeds vocabulary after t root lines opens passed k run
