-- Lines are the outline of one element, and tell it.
use Rattle.std.proofs.Common.{◌≡◌, ℕ, suc, ◌<◌, ◌≤◌, Bool, true, false, eqb, ltb, leb, List, [], ◌∷◌, ◌++◌, refl, sym, ap, ◌∙◌, append-nil, append_assoc, arith}
use Rattle.std.specs.Prelude.{if◌then◌else◌}
use Rattle.std.proofs.lemmas.Bool.{and_parts, eqb-true, lt-ltb, le-ltb, le-leb, ltb-true, ltb-false, leb-true}
use Rattle.feed_outline.specs.Nodes.{Nodes, no_nodes, node, Tag}
use Rattle.feed_outline.specs.Outline.{Line, line, outline, part}
use Rattle.feed_outline.specs.Outlined.{nodes_at, are_below, is_outline, outlined}

-- ---- lines that pass

-- the lines before the first that is less deep
abbrev front : ℕ → List Line → List Line
front depth [] = []
front depth (l ∷ lines) = if ltb l.depth depth then [] else l ∷ front depth lines

-- no line follows that is two deeper
front_ends : (before : ℕ) (lines : List Line) → are_below before lines ≡ true → front (suc (suc before)) lines ≡ []
front_ends before [] h = refl
front_ends before (l ∷ lines) h =
    let le : l.depth ≤ suc before = leb-true l.depth (suc before) (and_parts _ _ (and_parts _ _ h).0).1 in
    let less : ltb l.depth (suc (suc before)) ≡ true = lt-ltb l.depth (suc (suc before)) (omega (arith, le)) in
    rw less refl

-- the lines at the front are what stands deeper, and then the elements of this depth
front_is : (before depth : ℕ) (lines : List Line) → are_below before lines ≡ true → front depth lines ≡ front (suc depth) lines ++ outline depth (nodes_at depth lines)
front_is before depth [] h = refl
front_is before depth (l ∷ lines) h =
    let later : are_below l.depth lines ≡ true = (and_parts _ _ h).1 in
    go (ltb l.depth depth) refl (ltb depth l.depth) refl (front_is l.depth depth lines later) (front_is l.depth (suc depth) lines later) (front_ends l.depth lines later)
  where
    go : (less : Bool) → ltb l.depth depth ≡ less → (more : Bool) → ltb depth l.depth ≡ more
        → front depth lines ≡ front (suc depth) lines ++ outline depth (nodes_at depth lines)
        → front (suc depth) lines ≡ front (suc (suc depth)) lines ++ outline (suc depth) (nodes_at (suc depth) lines) → front (suc (suc l.depth)) lines ≡ []
        → front depth (l ∷ lines) ≡ front (suc depth) (l ∷ lines) ++ outline depth (nodes_at depth (l ∷ lines))
    go true e more f here below none =
        let next : ltb l.depth (suc depth) ≡ true = lt-ltb l.depth (suc depth) (omega (arith, ltb-true l.depth depth e)) in
        rw (e, next) refl
    go false e true f here below none =
        let next : ltb l.depth (suc depth) ≡ false = le-ltb l.depth (suc depth) (omega (arith, ltb-true depth l.depth f)) in
        rw (e, f, next) (ap (λ (ls : List Line). l ∷ ls) here)
    go false e false f here below none =
        let same : l.depth ≡ depth = omega (arith, ltb-false l.depth depth e, ltb-false depth l.depth f) in
        let next : ltb l.depth (suc depth) ≡ true = lt-ltb l.depth (suc depth) (omega (arith, same)) in
        let deep : front (suc (suc depth)) lines ≡ [] = ap (λ (k : ℕ). front (suc (suc k)) lines) (sym same) ∙ none in
        rw (e, f, next)
        (ap (λ (k : ℕ). line k l.name l.tag l.text ∷ front depth lines) same
        ∙ ap (λ (ls : List Line). line depth l.name l.tag l.text ∷ ls)
        (here ∙ ap (λ (ls : List Line). ls ++ outline depth (nodes_at depth lines)) (below ∙ ap (λ (ls : List Line). ls ++ outline (suc depth) (nodes_at (suc depth) lines)) deep)))

-- all of them are below the outermost
front_all : (before : ℕ) (lines : List Line) → are_below before lines ≡ true → front 1 lines ≡ lines
front_all before [] h = refl
front_all before (l ∷ lines) h =
    let lt : 0 < l.depth = ltb-true 0 l.depth (and_parts _ _ (and_parts _ _ h).0).0 in
    let deep : ltb l.depth 1 ≡ false = le-ltb l.depth 1 (omega (arith, lt)) in
    rw deep (ap (λ (ls : List Line). l ∷ ls) (front_all l.depth lines (and_parts _ _ h).1))

no_more : (before : ℕ) (lines : List Line) → are_below before lines ≡ true → nodes_at 0 lines ≡ no_nodes
no_more before [] h = refl
no_more before (l ∷ lines) h =
    let lt : ltb 0 l.depth ≡ true = (and_parts _ _ (and_parts _ _ h).0).0 in
    let none : ltb l.depth 0 ≡ false = le-ltb l.depth 0 (omega arith) in
    rw (none, lt) (no_more l.depth lines (and_parts _ _ h).1)

-- one element, and what stands in it
abbrev pub Told : List Line → Type 0
Told lines = (name : List ℕ) × (tag : Tag) × (text : List ℕ) × (below : Nodes) × (lines ≡ part name tag text below) × (outlined lines ≡ node name tag text below no_nodes)

pub told : (lines : List Line) → is_outline lines ≡ true → Told lines
told [] h = absurd cc
told (l ∷ lines) h =
    let parts = and_parts (eqb l.depth 0) (are_below 0 lines) h in
    let top : l.depth ≡ 0 = eqb-true l.depth 0 parts.0 in
    let below : lines ≡ outline 1 (nodes_at 1 lines) =
    sym (front_all 0 lines parts.1) ∙ front_is 0 1 lines parts.1 ∙ ap (λ (ls : List Line). ls ++ outline 1 (nodes_at 1 lines)) (front_ends 0 lines parts.1) in
    let less : ltb l.depth 0 ≡ false = le-ltb l.depth 0 (omega arith) in
    let more : ltb 0 l.depth ≡ false = le-ltb 0 l.depth (omega (arith, top)) in (
      l.name,
      l.tag,
      l.text,
      nodes_at 1 lines,
      ap (λ (k : ℕ). line k l.name l.tag l.text ∷ lines) top ∙ ap (λ (ls : List Line). line 0 l.name l.tag l.text ∷ ls) below,
      rw (h, less, more) (ap (node l.name l.tag l.text (nodes_at 1 lines)) (no_more 0 lines parts.1)),
    )

-- ---- the outline of an element

-- lines follow that are no deeper
abbrev Allows : ℕ → List Line → Type 0
Allows depth lines = (before : ℕ) → depth ≤ suc before → are_below before lines ≡ true

outline_below : (depth before : ℕ) (nodes : Nodes) (lines : List Line) → 0 < depth → depth ≤ suc before → Allows depth lines → are_below before (outline depth nodes ++ lines) ≡ true
outline_below depth before no_nodes lines some le allows = allows before le
outline_below depth before (node n tag text below rest) lines some le allows =
    let first : ltb 0 depth ≡ true = lt-ltb 0 depth some in
    let next : leb depth (suc before) ≡ true = le-leb depth (suc before) le in
    rw (first, next)
    (ap (are_below depth) (append_assoc (outline (suc depth) below) (outline depth rest) lines)
    ∙ outline_below (suc depth) depth below (outline depth rest ++ lines) (omega arith) (omega arith) (λ b h. outline_below depth b rest lines some (omega (arith, h)) allows))

pub passes : (name : List ℕ) (tag : Tag) (text : List ℕ) (below : Nodes) → is_outline (part name tag text below) ≡ true
passes name tag text below =
    let all : are_below 0 (outline 1 below ++ []) ≡ true = outline_below 1 0 below [] (omega arith) (omega arith) (λ b h. refl) in
    ap (are_below 0) (sym (append-nil (outline 1 below))) ∙ all

-- what is deeper is passed over
pass_deeper : (depth deep : ℕ) (nodes : Nodes) (lines : List Line) → depth < deep → nodes_at depth (outline deep nodes ++ lines) ≡ nodes_at depth lines
pass_deeper depth deep no_nodes lines lt = refl
pass_deeper depth deep (node n tag text below rest) lines lt =
    let less : ltb deep depth ≡ false = le-ltb deep depth (omega (arith, lt)) in
    let more : ltb depth deep ≡ true = lt-ltb depth deep lt in
    rw (less, more)
    (ap (nodes_at depth) (append_assoc (outline (suc deep) below) (outline deep rest) lines)
    ∙ pass_deeper depth (suc deep) below (outline deep rest ++ lines) (omega (arith, lt))
    ∙ pass_deeper depth deep rest lines lt)

-- no line follows, or one that is less deep
abbrev ends : ℕ → List Line → Bool
ends depth [] = true
ends depth (l ∷ lines) = ltb l.depth depth

ends_none : (depth : ℕ) (lines : List Line) → ends depth lines ≡ true → nodes_at depth lines ≡ no_nodes
ends_none depth [] h = refl
ends_none depth (l ∷ lines) h = rw h refl

ends_below : (depth : ℕ) (nodes : Nodes) (lines : List Line) → ends depth lines ≡ true → ends (suc depth) (outline depth nodes ++ lines) ≡ true
ends_below depth no_nodes [] h = refl
ends_below depth no_nodes (l ∷ lines) h = lt-ltb l.depth (suc depth) (omega (arith, ltb-true l.depth depth h))
ends_below depth (node n tag text below rest) lines h = lt-ltb depth (suc depth) (omega arith)

told_at : (depth : ℕ) (nodes : Nodes) (lines : List Line) → ends depth lines ≡ true → nodes_at depth (outline depth nodes ++ lines) ≡ nodes
told_at depth no_nodes lines h = ends_none depth lines h
told_at depth (node n tag text below rest) lines h =
    let same : ltb depth depth ≡ false = le-ltb depth depth (omega arith) in
    let regroup : (outline (suc depth) below ++ outline depth rest) ++ lines ≡ outline (suc depth) below ++ (outline depth rest ++ lines) =
    append_assoc (outline (suc depth) below) (outline depth rest) lines in
    let inside : nodes_at (suc depth) ((outline (suc depth) below ++ outline depth rest) ++ lines) ≡ below =
    ap (nodes_at (suc depth)) regroup ∙ told_at (suc depth) below (outline depth rest ++ lines) (ends_below depth rest lines h) in
    let others : nodes_at depth ((outline (suc depth) below ++ outline depth rest) ++ lines) ≡ rest =
    ap (nodes_at depth) regroup ∙ pass_deeper depth (suc depth) below (outline depth rest ++ lines) (omega arith) ∙ told_at depth rest lines h in
    rw (same, inside, others) refl

pub again : (name : List ℕ) (tag : Tag) (text : List ℕ) (below : Nodes) → outlined (part name tag text below) ≡ node name tag text below no_nodes
again name tag text below =
    let lone : nodes_at 0 (part name tag text below) ≡ node name tag text below no_nodes =
    ap (λ (ls : List Line). nodes_at 0 (line 0 name tag text ∷ ls)) (sym (append-nil (outline 1 below)))
    ∙ ap (nodes_at 0) (sym (append-nil (line 0 name tag text ∷ (outline 1 below ++ []))))
    ∙ told_at 0 (node name tag text below no_nodes) [] refl in
    rw (passes name tag text below) lone
