-- The tokens of a document are those of one tree.
use Rattle.std.proofs.Common.{◌≡◌, ℕ, List, [], ◌∷◌, ◌++◌, refl, sym, ap, ◌∙◌, append_assoc, subst}
use Rattle.std.specs.List.{AllByRecursion}
use Rattle.feed_xml.specs.Grammar.{Attribute, Token, raw, reference, opening, bracket, cdata, comment, instruction, declaration, doctype, start, empty, end}
use Rattle.feed_xml.specs.Tree.{Content, nothing, leaf, element, tokens_of, IsLeaf, HasLeaves}
use Rattle.feed_xml.specs.Trees.{IsProlog, IsRoot, IsTree}
use Rattle.feed_xml.proofs.KindLaws.{all_prolog, by_misc, by_root}

head_is : (x y : Token) (xs ys : List Token) → x ∷ xs ≡ y ∷ ys → x ≡ y
head_is x y xs ys e = cc

tail_is : (x y : Token) (xs ys : List Token) → x ∷ xs ≡ y ∷ ys → xs ≡ ys
tail_is x y xs ys e = cc

-- ---- leaves are no tags

leaf_apart : (t : Token) → IsLeaf t → ((n c : List ℕ) → end n c ≡ t → ⊥) × ((n : List ℕ) (a : List Attribute) (s : List ℕ) → start n a s ≡ t → ⊥)
leaf_apart (raw b) h = (λ n c e. cc, λ n a s e. cc)
leaf_apart (reference body) h = (λ n c e. cc, λ n a s e. cc)
leaf_apart opening h = (λ n c e. cc, λ n a s e. cc)
leaf_apart (bracket count) h = (λ n c e. cc, λ n a s e. cc)
leaf_apart (cdata count byte) h = (λ n c e. cc, λ n a s e. cc)
leaf_apart (comment body) h = (λ n c e. cc, λ n a s e. cc)
leaf_apart (instruction body) h = (λ n c e. cc, λ n a s e. cc)
leaf_apart (declaration body) h = absurd h
leaf_apart (doctype body) h = absurd h
leaf_apart (start name attributes space) h = absurd h
leaf_apart (empty name attributes space) h = (λ n c e. cc, λ n a s e. cc)
leaf_apart (end name space) h = absurd h

-- ---- what stands in an element

pub record Same (a b : Content) (x y : List Token) : Type 0 where
  pub content : a ≡ b
  pub behind : x ≡ y

leaf_so : (t u : Token) (a b : Content) → t ≡ u → a ≡ b → leaf t a ≡ leaf u b
leaf_so t u a b e f = rw (e, f) refl

element_so : (n m : List ℕ) (a b : List Attribute) (s t : List ℕ) (i j : Content) (c k : List ℕ) (r q : Content)
    → start n a s ≡ start m b t → i ≡ j → end n c ≡ end m k → r ≡ q → element n a s i c r ≡ element m b t j k q
element_so n m a b s t i j c k r q e f g h = cc

inside_one : (a b : Content) (n m c k : List ℕ) (x y : List Token) → HasLeaves a → HasLeaves b
    → tokens_of a ++ end n c ∷ x ≡ tokens_of b ++ end m k ∷ y → Same a b (end n c ∷ x) (end m k ∷ y)
inside_one nothing nothing n m c k x y f g e = record { content = refl; behind = e }
inside_one nothing (leaf u q) n m c k x y f g e = absurd ((leaf_apart u g.0).0 n c (head_is _ _ _ _ e))
inside_one nothing (element n2 a2 s2 i2 c2 r2) n m c k x y f g e = absurd (cc (head_is _ _ _ _ e))
inside_one (leaf t r) nothing n m c k x y f g e = absurd ((leaf_apart t f.0).0 m k (sym (head_is _ _ _ _ e)))
inside_one (leaf t r) (leaf u q) n m c k x y f g e =
    let same = inside_one r q n m c k x y f.1 g.1 (tail_is _ _ _ _ e) in
    record { content = leaf_so t u r q (head_is _ _ _ _ e) same.content; behind = same.behind }
inside_one (leaf t r) (element n2 a2 s2 i2 c2 r2) n m c k x y f g e =
    absurd ((leaf_apart t f.0).1 n2 a2 s2 (sym (head_is _ _ _ _ e)))
inside_one (element n1 a1 s1 i1 c1 r1) nothing n m c k x y f g e = absurd (cc (head_is _ _ _ _ e))
inside_one (element n1 a1 s1 i1 c1 r1) (leaf u q) n m c k x y f g e =
    absurd ((leaf_apart u g.0).1 n1 a1 s1 (head_is _ _ _ _ e))
inside_one (element n1 a1 s1 i1 c1 r1) (element n2 a2 s2 i2 c2 r2) n m c k x y f g e =
    let first = end n c ∷ x in
    let second = end m k ∷ y in
    let inner =
    inside_one i1 i2 n1 n2 c1 c2 (tokens_of r1 ++ first) (tokens_of r2 ++ second) f.0 g.0
    (sym (append_assoc (tokens_of i1) (end n1 c1 ∷ tokens_of r1) first)
    ∙ tail_is _ _ _ _ e ∙ append_assoc (tokens_of i2) (end n2 c2 ∷ tokens_of r2) second) in
    let outer = inside_one r1 r2 n m c k x y f.1 g.1 (tail_is _ _ _ _ inner.behind) in
    record {
      content =
          element_so n1 n2 a1 a2 s1 s2 i1 i2 c1 c2 r1 r2 (head_is _ _ _ _ e) inner.content
          (head_is _ _ _ _ inner.behind) outer.content;
      behind = outer.behind;
    }

-- ---- the root

abbrev IsTag : Token → Type 0
IsTag (start name attributes space) = Unit {0}
IsTag (empty name attributes space) = Unit {0}
IsTag other = ⊥

-- what stands before it
abbrev IsNoTag : Token → Type 0
IsNoTag t = IsTag t → ⊥

prolog_loose : (ts : List Token) → IsProlog ts → AllByRecursion IsNoTag ts
prolog_loose = all_prolog IsNoTag (by_misc IsNoTag (λ b s h. h) (λ body h. h) (λ body h. h)) (λ body h. h) (λ body h. h)

-- the first tag, and what follows it
first_tag : (b1 b2 : List Token) (t u : Token) (x y : List Token) → AllByRecursion IsNoTag b1 → AllByRecursion IsNoTag b2
    → IsTag t → IsTag u → b1 ++ t ∷ x ≡ b2 ++ u ∷ y → t ∷ x ≡ u ∷ y
first_tag [] [] t u x y p q h k e = e
first_tag [] (s ∷ b2) t u x y p q h k e = absurd (q.0 (subst IsTag (head_is _ _ _ _ e) h))
first_tag (r ∷ b1) [] t u x y p q h k e = absurd (p.0 (subst IsTag (sym (head_is _ _ _ _ e)) k))
first_tag (r ∷ b1) (s ∷ b2) t u x y p q h k e = first_tag b1 b2 t u x y p.1 q.1 h k (tail_is _ _ _ _ e)

pub one_tree : (tokens : List Token) (n m : List ℕ) (a b : Content) → IsTree tokens n a → IsTree tokens m b → a ≡ b
one_tree tokens n m a b t u =
    by_root n a (λ r. t.before ++ (r ++ t.behind) ≡ u.before ++ (u.root ++ u.behind) → a ≡ b)
    (λ n1 a1 s1 r h.
    by_root m b (λ q. t.before ++ ((start n1 a1 s1 ∷ r) ++ t.behind) ≡ u.before ++ (q ++ u.behind) → a ≡ b) (λ n2 a2 s2 q k e. started n1 n2 a1 a2 s1 s2 r q h k e)
    (λ n2 a2 s2 q k e. absurd (cc (head_is _ _ _ _ (first (start n1 a1 s1) (empty n2 a2 s2) (r ++ t.behind) (q ++ u.behind) tt tt e)))) u.root u.is_root)
    (λ n1 a1 s1 r h.
    by_root m b (λ q. t.before ++ ((empty n1 a1 s1 ∷ r) ++ t.behind) ≡ u.before ++ (q ++ u.behind) → a ≡ b)
    (λ n2 a2 s2 q k e. absurd (cc (head_is _ _ _ _ (first (empty n1 a1 s1) (start n2 a2 s2) (r ++ t.behind) (q ++ u.behind) tt tt e))))
    (λ n2 a2 s2 q k e. h.1 ∙ sym k.1) u.root u.is_root)
    t.root t.is_root (sym t.parts ∙ u.parts)
  where
    first : (x y : Token) (xs ys : List Token) → IsTag x → IsTag y → t.before ++ x ∷ xs ≡ u.before ++ y ∷ ys → x ∷ xs ≡ y ∷ ys
    first x y xs ys = first_tag t.before u.before x y xs ys (prolog_loose t.before t.prolog) (prolog_loose u.before u.prolog)

    started : (n1 n2 : List ℕ) (a1 a2 : List Attribute) (s1 s2 : List ℕ) (r q : List Token) → IsRoot (start n1 a1 s1 ∷ r) n a → IsRoot (start n2 a2 s2 ∷ q) m b
        → t.before ++ (start n1 a1 s1 ∷ (r ++ t.behind)) ≡ u.before ++ (start n2 a2 s2 ∷ (q ++ u.behind)) → a ≡ b
    started n1 n2 a1 a2 s1 s2 r q h k e =
        let rest = tail_is _ _ _ _ (first (start n1 a1 s1) (start n2 a2 s2) (r ++ t.behind) (q ++ u.behind) tt tt e) in
        let left : r ++ t.behind ≡ tokens_of a ++ end n h.1.0 ∷ t.behind =
        ap (λ (ts : List Token). ts ++ t.behind) h.1.1 ∙ append_assoc (tokens_of a) (end n h.1.0 ∷ []) t.behind in
        let right : q ++ u.behind ≡ tokens_of b ++ end m k.1.0 ∷ u.behind =
        ap (λ (ts : List Token). ts ++ u.behind) k.1.1 ∙ append_assoc (tokens_of b) (end m k.1.0 ∷ []) u.behind in
        (inside_one a b n m h.1.0 k.1.0 t.behind u.behind t.leaves u.leaves (sym left ∙ rest ∙ right)).content
