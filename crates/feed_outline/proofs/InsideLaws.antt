-- Feeding the tokens of what stands in a child of the root grows its lines.
use Rattle.std.proofs.Common.{◌≡◌, ℕ, suc, ◌<◌, Bool, true, false, List, [], ◌∷◌, ◌++◌, length, Option, Some, None, Ok, refl, sym, ap, ◌∙◌, append_assoc, append-nil, length-append, arith, fold}
use Rattle.std.specs.Prelude.{◌&&◌}
use Rattle.std.specs.List.{list_all}
use Rattle.std.proofs.lemmas.Bool.{and_parts}
use Rattle.std.proofs.lemmas.List.Folds.{list_all-append}
use Rattle.std.proofs.lemmas.List.Sums.{fold-append}
use Rattle.feed_outline.specs.Names.{Word}
use Rattle.feed_xml.specs.Grammar.{Attribute, Token, raw, reference, opening, bracket, cdata, comment, instruction, declaration, doctype, start, empty, end, is_space}
use Rattle.feed_xml.specs.Tree.{Content, nothing, leaf, element, tokens_of, IsLeaf, HasLeaves}
use Rattle.feed_outline.specs.Namespaces.{Binding, Scope, scope, bindings_of}
use Rattle.feed_outline.specs.Dialect.{Dialect, counted}
use Rattle.feed_outline.specs.Nodes.{Nodes, no_nodes, speaks, said, Tag, tag_of, token_text, is_known, direct_text, with_node, leaf_nodes, within, nodes_in}
use Rattle.feed_outline.specs.Outline.{Line, line, outline, part}
use Rattle.feed_outline.specs.private.Growing.{Open, growing, open_at, scopes_of, change, longer, waits_behind, opened, closed}
use Rattle.feed_outline.proofs.SpaceLaws.{collapsed_is}
use Rattle.feed_outline.specs.Spaces.{collapsed}
use Rattle.feed_outline.specs.private.Feed.{Feed, feeding, settled, feed, feed_said}
use Rattle.feed_outline.proofs.ChangeLaws.{length-change, change-front, change-last, longer-nil, longer-append}

-- in the root of a message, of which each reference so far stands for something
abbrev pub inside_at : {T : Type 0} → T → Dialect → List Line → List Open → ℕ → Feed T
inside_at t d lines opens passed = feeding t (Some (Ok d)) (growing lines opens passed) true

-- content of which each reference stands for something
abbrev pub IsClean : Content → Type 0
IsClean nothing = Unit {0}
IsClean (leaf token rest) = IsLeaf token × (is_known token ≡ true) × IsClean rest
IsClean (element name attributes space inside closing rest) = IsClean inside × IsClean rest

pub clean : (c : Content) → HasLeaves c → list_all is_known (tokens_of c) ≡ true → IsClean c
clean nothing h k = tt
clean (leaf token rest) h k = (h.0, (and_parts _ _ k).0, clean rest h.1 (and_parts _ _ k).1)
clean (element name attributes space inside closing rest) h k =
    let parts = and_parts (list_all is_known (tokens_of inside)) (list_all is_known (end name closing ∷ tokens_of rest)) (sym (list_all-append is_known (tokens_of inside) (end name closing ∷ tokens_of rest)) ∙ k) in
    (clean inside h.0 parts.0, clean rest h.1 parts.1)

-- ---- an element that is passed over

-- what a token says that is no tag
pub record Speaks (token : Token) : Type 0 where
  pub says : said token ≡ speaks (token_text token) (is_known token)
  pub alone : (vocabulary : List Word) (d : Dialect) (around : List Scope) (n : Nodes) → leaf_nodes vocabulary d around token n ≡ n

speaking : (token : Token) → said token ≡ speaks (token_text token) (is_known token) → ((vocabulary : List Word) (d : Dialect) (around : List Scope) (n : Nodes) → leaf_nodes vocabulary d around token n ≡ n) → Speaks token
speaking token says alone = record { says = says; alone = alone }

-- a leaf is no tag, or an empty element
pub by_leaf : (P : Token → Type 0) → ((token : Token) → Speaks token → P token) → ((name : List ℕ) (attributes : List Attribute) (space : List ℕ) → P (empty name attributes space)) → (token : Token) → IsLeaf token → P token
by_leaf P f g (raw b) h = f (raw b) (speaking (raw b) refl (λ v d s n. refl))
by_leaf P f g (reference body) h = f (reference body) (speaking (reference body) refl (λ v d s n. refl))
by_leaf P f g opening h = f opening (speaking opening refl (λ v d s n. refl))
by_leaf P f g (bracket n) h = f (bracket n) (speaking (bracket n) refl (λ v d s n. refl))
by_leaf P f g (cdata n b) h = f (cdata n b) (speaking (cdata n b) refl (λ v d s n. refl))
by_leaf P f g (comment body) h = f (comment body) (speaking (comment body) refl (λ v d s n. refl))
by_leaf P f g (instruction body) h = f (instruction body) (speaking (instruction body) refl (λ v d s n. refl))
by_leaf P f g (declaration body) h = absurd h
by_leaf P f g (doctype body) h = absurd h
by_leaf P f g (start name attributes space) h = absurd h
by_leaf P f g (empty name attributes space) h = g name attributes space
by_leaf P f g (end name space) h = absurd h

pass_leaf : (vocabulary : List Word) {T : Type 0} (after : T → List Line → T) (t : T) (d : Dialect) (lines : List Line) (opens : List Open) (passed : ℕ) (token : Token) → IsLeaf token → is_known token ≡ true
    → feed vocabulary after (inside_at t d lines opens (suc passed)) token ≡ inside_at t d lines opens (suc passed)
pass_leaf vocabulary after t d lines opens passed =
    by_leaf (λ token. is_known token ≡ true → feed vocabulary after (inside_at t d lines opens (suc passed)) token ≡ inside_at t d lines opens (suc passed))
    (λ token s k. ap (feed_said vocabulary after (inside_at t d lines opens (suc passed))) s.says ∙ ap (λ b. feeding t (Some (Ok d)) (growing lines opens (suc passed)) (b && true)) k)
    (λ name attributes space k. refl)

pub passes : (vocabulary : List Word) {T : Type 0} (after : T → List Line → T) (t : T) (d : Dialect) (lines : List Line) (opens : List Open) (passed : ℕ) (c : Content) → IsClean c
    → fold (feed vocabulary after) (inside_at t d lines opens (suc passed)) (tokens_of c) ≡ inside_at t d lines opens (suc passed)
passes vocabulary after t d lines opens passed nothing h = refl
passes vocabulary after t d lines opens passed (leaf token rest) h =
    ap (λ f. fold (feed vocabulary after) f (tokens_of rest)) (pass_leaf vocabulary after t d lines opens passed token h.0 h.1)
    ∙ passes vocabulary after t d lines opens passed rest h.2
passes vocabulary after t d lines opens passed (element name attributes space inside closing rest) h =
    fold-append (feed vocabulary after) (inside_at t d lines opens (suc (suc passed))) (tokens_of inside) (end name closing ∷ tokens_of rest)
    ∙ ap (λ f. fold (feed vocabulary after) f (end name closing ∷ tokens_of rest)) (passes vocabulary after t d lines opens (suc passed) inside h.0)
    ∙ passes vocabulary after t d lines opens passed rest h.1

-- ---- below a child of the root

leaf_outline : (vocabulary : List Word) (depth : ℕ) (d : Dialect) (around : List Scope) (token : Token) (n : Nodes) → IsLeaf token → outline depth (leaf_nodes vocabulary d around token n) ≡ outline depth (leaf_nodes vocabulary d around token no_nodes) ++ outline depth n
leaf_outline vocabulary depth d around token n h =
    by_leaf (λ token. outline depth (leaf_nodes vocabulary d around token n) ≡ outline depth (leaf_nodes vocabulary d around token no_nodes) ++ outline depth n)
    (λ token s. ap (outline depth) (s.alone vocabulary d around n) ∙ ap (λ m. outline depth m ++ outline depth n) (sym (s.alone vocabulary d around no_nodes)))
    (λ name attributes space. go (tag_of attributes) (counted vocabulary d around name (bindings_of attributes))) token h
  where
    go : (tag : Tag) (o : Option (List ℕ)) → outline depth (with_node o tag [] no_nodes n) ≡ outline depth (with_node o tag [] no_nodes no_nodes) ++ outline depth n
    go tag None = refl
    go tag (Some m) = refl

empty_step : {T : Type 0} (after : T → List Line → T) (t : T) (d : Dialect) (lines : List Line) (at : ℕ) (w : Bool) (s : Scope) (more : List Open) (o : Option (List ℕ)) (tag : Tag) (b : List Binding)
    → (let g = opened 0 o tag b (growing lines (open_at at w s ∷ more) 0) in settled after (feeding t (Some (Ok d)) g true) (closed g.passed g))
    ≡ inside_at t d (change (longer w []) at lines ++ outline (suc (length more)) (with_node o tag [] no_nodes no_nodes)) (open_at at w s ∷ more) 0
empty_step after t d lines at w s more None tag b = ap (λ ls. inside_at t d ls (open_at at w s ∷ more) 0) (sym (append-nil (change (longer w []) at lines) ∙ longer-nil w at lines))
empty_step after t d lines at w s more (Some name) tag b =
    ap (λ ls. inside_at t d (ls ++ line (suc (length more)) name tag [] ∷ []) (open_at at w s ∷ more) 0) (sym (longer-nil w at lines))

-- with the text of a token, and with these elements
abbrev grown : {T : Type 0} → T → Dialect → List Line → ℕ → Bool → Scope → List Open → Token → Nodes → Feed T
grown t d lines at w s more token n =
    inside_at t d (change (longer w (token_text token)) at lines ++ outline (suc (length more)) n) (open_at at (waits_behind w (token_text token)) s ∷ more) 0

leaf_step : (vocabulary : List Word) {T : Type 0} (after : T → List Line → T) (t : T) (d : Dialect) (lines : List Line) (at : ℕ) (w : Bool) (s : Scope) (more : List Open) (token : Token) → IsLeaf token → is_known token ≡ true
    → feed vocabulary after (inside_at t d lines (open_at at w s ∷ more) 0) token
    ≡ inside_at t d (change (longer w (token_text token)) at lines ++ outline (suc (length more)) (leaf_nodes vocabulary d (s ∷ scopes_of more) token no_nodes)) (open_at at (waits_behind w (token_text token)) s ∷ more) 0
leaf_step vocabulary after t d lines at w s more token h =
    by_leaf (λ token. is_known token ≡ true → feed vocabulary after (inside_at t d lines (open_at at w s ∷ more) 0) token ≡ grown t d lines at w s more token (leaf_nodes vocabulary d (s ∷ scopes_of more) token no_nodes))
    (λ token says k.
    ap (feed_said vocabulary after (inside_at t d lines (open_at at w s ∷ more) 0)) says.says
    ∙ ap (λ b. feeding t (Some (Ok d)) (growing (change (longer w (token_text token)) at lines) (open_at at (waits_behind w (token_text token)) s ∷ more) 0) (b && true)) k
    ∙ ap (λ ls. inside_at t d ls (open_at at (waits_behind w (token_text token)) s ∷ more) 0) (sym (append-nil (change (longer w (token_text token)) at lines)))
    ∙ ap (grown t d lines at w s more token) (sym (says.alone vocabulary d (s ∷ scopes_of more) no_nodes)))
    (λ name attributes space k. empty_step after t d lines at w s more (counted vocabulary d (s ∷ scopes_of more) name (bindings_of attributes)) (tag_of attributes) (bindings_of attributes)) token h

-- what feeding the tokens of content below a child of the root
abbrev pub told_at : (vocabulary : List Word) {T : Type 0} → T → Dialect → Content → List Line → ℕ → Bool → Scope → List Open → Feed T
told_at vocabulary t d c lines at w s more =
    inside_at t d (change (longer w (direct_text c)) at lines ++ outline (suc (length more)) (nodes_in vocabulary d (s ∷ scopes_of more) c)) (open_at at (waits_behind w (direct_text c)) s ∷ more) 0

element_step : (vocabulary : List Word) {T : Type 0} (after : T → List Line → T) (t : T) (d : Dialect) (name : List ℕ) (inside : Content) (closing : List ℕ) (rest : Content) (o : Option (List ℕ)) (tag : Tag) (b : List Binding)
    (lines : List Line) (at : ℕ) (w : Bool) (s : Scope) (more : List Open) → IsClean inside → at < length lines
    → ((ls : List Line) (n : ℕ) (v : Bool) (k : Scope) (ns : List Open) → n < length ls → fold (feed vocabulary after) (inside_at t d ls (open_at n v k ∷ ns) 0) (tokens_of inside) ≡ told_at vocabulary t d inside ls n v k ns)
    → ((ls : List Line) → at < length ls → fold (feed vocabulary after) (inside_at t d ls (open_at at w s ∷ more) 0) (tokens_of rest)
    ≡ told_at vocabulary t d rest ls at w s more)
    → fold (feed vocabulary after) (feeding t (Some (Ok d)) (opened 0 o tag b (growing lines (open_at at w s ∷ more) 0)) true) (tokens_of inside ++ end name closing ∷ tokens_of rest)
    ≡ inside_at t d (change (longer w (direct_text rest)) at lines
    ++ outline (suc (length more)) (with_node o tag (collapsed (direct_text inside)) (nodes_in vocabulary d (within o b (s ∷ scopes_of more)) inside) (nodes_in vocabulary d (s ∷ scopes_of more) rest)))
    (open_at at (waits_behind w (direct_text rest)) s ∷ more) 0
element_step vocabulary after t d name inside closing rest None tag b lines at w s more h lt inner later =
    fold-append (feed vocabulary after) (inside_at t d lines (open_at at w s ∷ more) 1) (tokens_of inside) (end name closing ∷ tokens_of rest)
    ∙ ap (λ f. fold (feed vocabulary after) f (end name closing ∷ tokens_of rest)) (passes vocabulary after t d lines (open_at at w s ∷ more) 0 inside h)
    ∙ later lines lt
element_step vocabulary after t d name inside closing rest (Some m) tag b lines at w s more h lt inner later =
    let depth = suc (length more) in
    let place = length lines in
    let opens = open_at at w s ∷ more in
    let text = direct_text inside in
    let begun = lines ++ line depth m tag [] ∷ [] in
    let spoke = lines ++ line depth m tag (collapsed text) ∷ [] in
    let below = outline (suc depth) (nodes_in vocabulary d (scope m b ∷ s ∷ scopes_of more) inside) in
    let others = outline depth (nodes_in vocabulary d (s ∷ scopes_of more) rest) in
    let whole = spoke ++ below in
    let first : fold (feed vocabulary after) (inside_at t d begun (open_at place false (scope m b) ∷ opens) 0) (tokens_of inside)
    ≡ inside_at t d whole (open_at place (waits_behind false text) (scope m b) ∷ opens) 0 =
    inner begun place false (scope m b) opens (omega (arith, length-append lines (line depth m tag [] ∷ [])))
    ∙ ap (λ ls. inside_at t d (ls ++ below) (open_at place (waits_behind false text) (scope m b) ∷ opens) 0) (change-last (longer false text) lines (line depth m tag []) ∙ ap (λ x. lines ++ line depth m tag x ∷ []) (collapsed_is text)) in
    let regroup : change (longer w (direct_text rest)) at whole ++ others
    ≡ change (longer w (direct_text rest)) at lines ++ (line depth m tag (collapsed text) ∷ (below ++ others)) =
    ap (λ ls. ls ++ others)
    (change-front (longer w (direct_text rest)) at spoke below (omega (arith, lt, length-append lines (line depth m tag (collapsed text) ∷ [])))
    ∙ ap (λ ls. ls ++ below) (change-front (longer w (direct_text rest)) at lines (line depth m tag (collapsed text) ∷ []) lt))
    ∙ simp append_assoc in
    fold-append (feed vocabulary after) (inside_at t d begun (open_at place false (scope m b) ∷ opens) 0) (tokens_of inside) (end name closing ∷ tokens_of rest)
    ∙ ap (λ f. fold (feed vocabulary after) f (end name closing ∷ tokens_of rest)) first
    ∙ later whole (omega (arith, lt, length-append spoke below, length-append lines (line depth m tag (collapsed text) ∷ [])))
    ∙ ap (λ ls. inside_at t d ls (open_at at (waits_behind w (direct_text rest)) s ∷ more) 0) regroup

pub inside_feeds : (vocabulary : List Word) {T : Type 0} (after : T → List Line → T) (t : T) (d : Dialect) (c : Content) (lines : List Line) (at : ℕ) (w : Bool) (s : Scope) (more : List Open) → IsClean c → at < length lines
    → fold (feed vocabulary after) (inside_at t d lines (open_at at w s ∷ more) 0) (tokens_of c) ≡ told_at vocabulary t d c lines at w s more
inside_feeds vocabulary after t d nothing lines at w s more h lt = ap (λ ls. inside_at t d ls (open_at at w s ∷ more) 0) (sym (append-nil (change (longer w []) at lines) ∙ longer-nil w at lines))
inside_feeds vocabulary after t d (leaf token rest) lines at w s more h lt =
    let depth = suc (length more) in
    let v = waits_behind w (token_text token) in
    let spoke = change (longer w (token_text token)) at lines in
    let below = outline depth (leaf_nodes vocabulary d (s ∷ scopes_of more) token no_nodes) in
    let longest = change (longer w (token_text token ++ direct_text rest)) at lines in
    let opens = open_at at (waits_behind v (direct_text rest)) s ∷ more in
    ap (λ f. fold (feed vocabulary after) f (tokens_of rest)) (leaf_step vocabulary after t d lines at w s more token h.0 h.1)
    ∙ inside_feeds vocabulary after t d rest (spoke ++ below) at v s more h.2 (omega (arith, lt, length-append spoke below, length-change (longer w (token_text token)) at lines))
    ∙ ap (λ ls. inside_at t d (ls ++ outline depth (nodes_in vocabulary d (s ∷ scopes_of more) rest)) opens 0)
    (change-front (longer v (direct_text rest)) at spoke below (omega (arith, lt, length-change (longer w (token_text token)) at lines))
    ∙ ap (λ ls. ls ++ below) (sym (longer-append w at (token_text token) (direct_text rest) lines)))
    ∙ ap (λ ls. inside_at t d ls opens 0)
    (append_assoc longest below (outline depth (nodes_in vocabulary d (s ∷ scopes_of more) rest)) ∙ ap (λ ls. longest ++ ls) (sym (leaf_outline vocabulary depth d (s ∷ scopes_of more) token (nodes_in vocabulary d (s ∷ scopes_of more) rest) h.0)))
    ∙ ap (λ b. inside_at t d (longest ++ outline depth (leaf_nodes vocabulary d (s ∷ scopes_of more) token (nodes_in vocabulary d (s ∷ scopes_of more) rest))) (open_at at b s ∷ more) 0)
    (sym (fold-append (λ b c. is_space c) w (token_text token) (direct_text rest)))
inside_feeds vocabulary after t d (element name attributes space inside closing rest) lines at w s more h lt =
    element_step vocabulary after t d name inside closing rest (counted vocabulary d (s ∷ scopes_of more) name (bindings_of attributes)) (tag_of attributes) (bindings_of attributes) lines at w s more h.0 lt
    (λ ls n v k ns. inside_feeds vocabulary after t d inside ls n v k ns h.0) (λ ls. inside_feeds vocabulary after t d rest ls at w s more h.1)

-- the same in a child of the root
pub root_inside : (vocabulary : List Word) {T : Type 0} (after : T → List Line → T) (t : T) (d : Dialect) (m : List ℕ) (tag : Tag) (b : List Binding) (inside : Content) → IsClean inside
    → fold (feed vocabulary after) (inside_at t d (line 0 m tag [] ∷ []) (open_at 0 false (scope m b) ∷ []) 0) (tokens_of inside)
    ≡ inside_at t d (part m tag (collapsed (direct_text inside)) (nodes_in vocabulary d (scope m b ∷ []) inside)) (open_at 0 (waits_behind false (direct_text inside)) (scope m b) ∷ []) 0
root_inside vocabulary after t d m tag b inside h =
    inside_feeds vocabulary after t d inside (line 0 m tag [] ∷ []) 0 false (scope m b) [] h (omega arith)
    ∙ ap (λ x. inside_at t d (part m tag x (nodes_in vocabulary d (scope m b ∷ []) inside)) (open_at 0 (waits_behind false (direct_text inside)) (scope m b) ∷ []) 0) (collapsed_is (direct_text inside))
