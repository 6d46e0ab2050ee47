-- Places, and the tokens that lead from one to the next.
use Rattle.std.proofs.Common.{◌≡◌, ℕ, Bool, true, false, cond, eqb, List, [], ◌∷◌, ◌++◌, map, length, ◌≤◌, Option, Some, None, refl, sym, ap, subst, ◌∙◌, fold, arith}
use Rattle.std.specs.Prelude.{◌&&◌, option_and_then, option_map}
use Rattle.std.specs.List.{list_all}
use Rattle.std.proofs.lemmas.Bool.{eqb-true}
use Rattle.std.proofs.lemmas.List.Folds.{list_all-append}
use Rattle.feed_xml.specs.declared.nesting.Nesting.{Nesting}
use Rattle.feed_xml.specs.declared.place.Place.{Place}
use Rattle.feed_xml.specs.declared.place.Prolog.{Prolog}
use Rattle.feed_xml.specs.declared.place.Prolog.TheVariants.{Front, Open, Closed}
use Rattle.feed_xml.specs.declared.place.Tail.{Tail}
use Rattle.feed_xml.specs.declared.place.Tail.TheVariants.{Text, Section}
use Rattle.feed_xml.specs.Grammar.{Token, raw, reference, opening, bracket, cdata, comment, instruction, declaration, doctype, start, empty, end}
use Rattle.feed_xml.specs.private.Places.{nested, nests, further, ordered, prolog_after, brackets_after, section_of, is_nothing, is_past, place_from, first_place, steps}
use Rattle.feed_xml.specs.Sections.{AreIn, ends_section, section_around, section_behind, section_past, with_bracket}
use Rattle.feed_xml.specs.Trees.{next_brackets, next_tail, tail_after, tail_in}
use Rattle.feed_xml.specs.Distinct.{has_distinct}

pub nests-append : (p : Nesting) (xs ys : List Token) → nests p (xs ++ ys) ≡ option_and_then (λ q. nests q ys) (nests p xs)
nests-append p [] ys = refl
nests-append p (t ∷ xs) ys = go (λ q. nests-append q xs ys) (nested p t)
  where
    go : ((q : Nesting) → nests q (xs ++ ys) ≡ option_and_then (λ r. nests r ys) (nests q xs)) → (o : Option Nesting)
        → option_and_then (λ q. nests q (xs ++ ys)) o ≡ option_and_then (λ q. nests q ys) (option_and_then (λ q. nests q xs) o)
    go each (Some q) = each q
    go each None = refl

pub tail-append : (t : Tail) (xs ys : List Token) → tail_after t (xs ++ ys) ≡ option_and_then (λ u. tail_after u ys) (tail_after t xs)
tail-append t [] ys = refl
tail-append t (x ∷ xs) ys = go (λ u. tail-append u xs ys) (next_tail t x)
  where
    go : ((u : Tail) → tail_after u (xs ++ ys) ≡ option_and_then (λ v. tail_after v ys) (tail_after u xs)) → (o : Option Tail)
        → option_and_then (λ u. tail_after u (xs ++ ys)) o ≡ option_and_then (λ u. tail_after u ys) (option_and_then (λ u. tail_after u xs) o)
    go each (Some u) = each u
    go each None = refl

pub prolog-append : (p : Prolog) (xs ys : List Token) → prolog_after p (xs ++ ys) ≡ option_and_then (λ q. prolog_after q ys) (prolog_after p xs)
prolog-append p [] ys = refl
prolog-append p (t ∷ xs) ys = go (λ q. prolog-append q xs ys) (ordered p t)
  where
    go : ((q : Prolog) → prolog_after q (xs ++ ys) ≡ option_and_then (λ r. prolog_after r ys) (prolog_after q xs)) → (o : Option Prolog)
        → option_and_then (λ q. prolog_after q (xs ++ ys)) o ≡ option_and_then (λ q. prolog_after q ys) (option_and_then (λ q. prolog_after q xs) o)
    go each (Some q) = each q
    go each None = refl

pub none_right : (o : Option Nesting) (r : Option Prolog) → place_from o None r ≡ None
none_right (Some q) r = refl
none_right None r = refl

none_last : (o : Option Nesting) (c : Option Tail) → place_from o c None ≡ None
none_last (Some q) (Some m) = refl
none_last (Some q) None = refl
none_last None c = refl

pub steps-append : (p : Place) (xs ys : List Token) → steps p (xs ++ ys) ≡ option_and_then (λ q. steps q ys) (steps p xs)
steps-append p xs ys =
    ap (λ (b : Bool). cond b (place_from (nests p.nesting (xs ++ ys)) (tail_after p.tail (xs ++ ys)) (prolog_after p.prolog (xs ++ ys))) None) (list_all-append has_distinct xs ys)
    ∙ ap (λ (o : Option Nesting). cond (list_all has_distinct xs && list_all has_distinct ys) (place_from o (tail_after p.tail (xs ++ ys)) (prolog_after p.prolog (xs ++ ys))) None) (nests-append p.nesting xs ys)
    ∙ ap (λ (o : Option Tail). cond (list_all has_distinct xs && list_all has_distinct ys) (place_from (option_and_then (λ q. nests q ys) (nests p.nesting xs)) o (prolog_after p.prolog (xs ++ ys))) None) (tail-append p.tail xs ys)
    ∙ ap (λ (o : Option Prolog). cond (list_all has_distinct xs && list_all has_distinct ys) (place_from (option_and_then (λ q. nests q ys) (nests p.nesting xs)) (option_and_then (λ m. tail_after m ys) (tail_after p.tail xs)) o) None) (prolog-append p.prolog xs ys)
    ∙ go (list_all has_distinct xs) (list_all has_distinct ys) (nests p.nesting xs) (tail_after p.tail xs) (prolog_after p.prolog xs)
  where
    go : (a b : Bool) (o : Option Nesting) (c : Option Tail) (r : Option Prolog)
        → cond (a && b) (place_from (option_and_then (λ q. nests q ys) o) (option_and_then (λ m. tail_after m ys) c) (option_and_then (λ k. prolog_after k ys) r)) None
        ≡ option_and_then (λ (q : Place). cond b (place_from (nests q.nesting ys) (tail_after q.tail ys) (prolog_after q.prolog ys)) None) (cond a (place_from o c r) None)
    go false b o c r = refl
    go true false (Some q) (Some m) (Some k) = refl
    go true false (Some q) (Some m) None = refl
    go true false (Some q) None r = refl
    go true false None c r = refl
    go true true (Some q) (Some m) (Some k) = refl
    go true true (Some q) (Some m) None = none_last (nests q ys) (tail_after m ys)
    go true true (Some q) None r = none_right (nests q ys) (option_and_then (λ k. prolog_after k ys) r)
    go true true None c r = refl

pub record Parts (p : Place) (tokens : List Token) (q : Place) : Type 0 where
  pub distinct : list_all has_distinct tokens ≡ true
  pub nesting : nests p.nesting tokens ≡ Some q.nesting
  pub tail : tail_after p.tail tokens ≡ Some q.tail
  pub order : prolog_after p.prolog tokens ≡ Some q.prolog

-- what tokens lead to, part by part
pub parts_of : (p : Place) (tokens : List Token) (q : Place) → steps p tokens ≡ Some q → Parts p tokens q
parts_of p tokens q e =
    go (list_all has_distinct tokens) (nests p.nesting tokens) (tail_after p.tail tokens) (prolog_after p.prolog tokens) refl refl refl refl e
  where
    place_is : (x y : Place) → Some x ≡ Some y → x ≡ y
    place_is x y h = cc

    go : (b : Bool) (o : Option Nesting) (c : Option Tail) (r : Option Prolog) → list_all has_distinct tokens ≡ b → nests p.nesting tokens ≡ o → tail_after p.tail tokens ≡ c
        → prolog_after p.prolog tokens ≡ r → cond b (place_from o c r) None ≡ Some q → Parts p tokens q
    go false o c r h k l j e = absurd cc
    go true None c r h k l j e = absurd cc
    go true (Some n) None r h k l j e = absurd cc
    go true (Some n) (Some m) None h k l j e = absurd cc
    go true (Some n) (Some m) (Some i) h k l j e =
        let same = place_is (record { nesting = n; tail = m; prolog = i }) q e in
        record {
          distinct = h;
          nesting = k ∙ ap (λ (r : Place). Some r.nesting) same;
          tail = l ∙ ap (λ (r : Place). Some r.tail) same;
          order = j ∙ ap (λ (r : Place). Some r.prolog) same;
        }

pub steps_of : (p : Place) (tokens : List Token) (q : Place) → Parts p tokens q → steps p tokens ≡ Some q
steps_of p tokens q h = rw (h.distinct, h.nesting, h.tail, h.order) refl

-- ---- a stretch of text

text_distinct : (run : List ℕ) → list_all has_distinct (map raw run) ≡ true
text_distinct [] = refl
text_distinct (b ∷ run) = text_distinct run

pub text_ok : (p : Place) (run : List ℕ) (n : Nesting) (m : Tail) (i : Prolog)
    → nests p.nesting (map raw run) ≡ Some n → tail_after p.tail (map raw run) ≡ Some m → prolog_after p.prolog (map raw run) ≡ Some i
    → steps p (map raw run) ≡ Some (record { nesting = n; tail = m; prolog = i })
text_ok p run n m i h k l = rw (text_distinct run, h, k, l) refl

pub text_tail : (n : ℕ) (run : List ℕ) → tail_after (Text n) (map raw run) ≡ option_map (λ m. Text m) (brackets_after n run)
text_tail n [] = refl
text_tail n (b ∷ run) = go (λ m. text_tail m run) (next_brackets n b)
  where
    go : ((m : ℕ) → tail_after (Text m) (map raw run) ≡ option_map (λ k. Text k) (brackets_after m run)) → (o : Option ℕ)
        → option_and_then (λ t. tail_after t (map raw run)) (option_map (λ m. Text m) o) ≡ option_map (λ m. Text m) (option_and_then (λ m. brackets_after m run) o)
    go each (Some m) = each m
    go each None = refl

pub section_no_text : (n : ℕ) (run : List ℕ) → 1 ≤ length run → None ≡ tail_after (Section n) (map raw run)
section_no_text n [] le = absurd (omega (arith, le))
section_no_text n (b ∷ run) le = refl

further_twice : (p : Prolog) → further (further p) ≡ further p
further_twice Front = refl
further_twice Open = refl
further_twice Closed = refl

-- behind text that is there
pub text_order : (p : Prolog) (b : ℕ) (run : List ℕ) → prolog_after p (map raw (b ∷ run)) ≡ Some (further p)
text_order p b [] = refl
text_order p b (c ∷ run) = text_order (further p) c run ∙ ap (λ (q : Prolog). Some q) (further_twice p)

pub text_ordered : (p : Prolog) (run : List ℕ) → 1 ≤ length run → prolog_after p (map raw run) ≡ Some (further p)
text_ordered p [] le = absurd (omega (arith, le))
text_ordered p (b ∷ run) le = text_order p b run

pub past_is : (p : Prolog) → is_past p ≡ true → p ≡ Closed
past_is Front h = absurd cc
past_is Open h = absurd cc
past_is Closed h = refl

-- ---- sections

tail_is : (t u : Tail) → Some t ≡ Some u → t ≡ u
tail_is t u e = cc

-- what a token stands in, and what follows it
pub record Passes (t : Tail) (token : Token) (u : Tail) : Type 0 where
  pub around : section_around token ≡ section_of t
  pub behind : section_behind token ≡ section_of u

passes_text : (m n : ℕ) (u : Tail) (token : Token) → section_around token ≡ None → section_behind token ≡ None → Some (Text m) ≡ Some u → Passes (Text n) token u
passes_text m n u token around behind e = record { around = around; behind = behind ∙ ap section_of (tail_is (Text m) u e) }

section_tail : (n b : ℕ) → section_behind (cdata n b) ≡ section_of (tail_in n b)
section_tail n b = go (ends_section n b)
  where
    go : (t : Bool) → cond t None (Some 0) ≡ section_of (cond t (Text 0) (Section 0))
    go true = refl
    go false = refl

pub passes : (t : Tail) (token : Token) (u : Tail) → next_tail t token ≡ Some u → Passes t token u
passes (Text n) (raw b) u e = go (next_brackets n b) e
  where
    go : (o : Option ℕ) → option_map (λ m. Text m) o ≡ Some u → Passes (Text n) (raw b) u
    go (Some m) f = passes_text m n u (raw b) refl refl f
    go None f = absurd cc
passes (Text n) (reference body) u e = passes_text 0 n u (reference body) refl refl e
passes (Text n) opening u e = record { around = refl; behind = ap section_of (tail_is (Section 0) u e) }
passes (Text n) (bracket m) u e = absurd cc
passes (Text n) (cdata m b) u e = absurd cc
passes (Text n) (comment body) u e = passes_text 0 n u (comment body) refl refl e
passes (Text n) (instruction body) u e = passes_text 0 n u (instruction body) refl refl e
passes (Text n) (declaration body) u e = passes_text 0 n u (declaration body) refl refl e
passes (Text n) (doctype body) u e = passes_text 0 n u (doctype body) refl refl e
passes (Text n) (start name attributes space) u e = passes_text 0 n u (start name attributes space) refl refl e
passes (Text n) (empty name attributes space) u e = passes_text 0 n u (empty name attributes space) refl refl e
passes (Text n) (end name space) u e = passes_text 0 n u (end name space) refl refl e
passes (Section n) (raw b) u e = absurd cc
passes (Section n) (reference body) u e = absurd cc
passes (Section n) opening u e = absurd cc
passes (Section n) (bracket m) u e = go (eqb n m) refl e
  where
    go : (t : Bool) → eqb n m ≡ t → cond t (Some (Section (with_bracket n))) None ≡ Some u → Passes (Section n) (bracket m) u
    go false is f = absurd cc
    go true is f =
        let same : m ≡ n = sym (eqb-true n m is) in
        record { around = ap (λ (k : ℕ). Some k) same; behind = ap (λ (k : ℕ). Some (with_bracket k)) same ∙ ap section_of (tail_is (Section (with_bracket n)) u f) }
passes (Section n) (cdata m b) u e = go (eqb n m) refl e
  where
    go : (t : Bool) → eqb n m ≡ t → cond t (Some (tail_in n b)) None ≡ Some u → Passes (Section n) (cdata m b) u
    go false is f = absurd cc
    go true is f =
        let same : m ≡ n = sym (eqb-true n m is) in
        record { around = ap (λ (k : ℕ). Some k) same; behind = ap (λ (k : ℕ). section_behind (cdata k b)) same ∙ section_tail n b ∙ ap section_of (tail_is (tail_in n b) u f) }
passes (Section n) (comment body) u e = absurd cc
passes (Section n) (instruction body) u e = absurd cc
passes (Section n) (declaration body) u e = absurd cc
passes (Section n) (doctype body) u e = absurd cc
passes (Section n) (start name attributes space) u e = absurd cc
passes (Section n) (empty name attributes space) u e = absurd cc
passes (Section n) (end name space) u e = absurd cc

pub tails_in : (tokens : List Token) (t u : Tail) → tail_after t tokens ≡ Some u → AreIn (section_of t) tokens
tails_in [] t u e = tt
tails_in (token ∷ tokens) t u e = go (λ v f. tails_in tokens v u f) (next_tail t token) refl e
  where
    go : ((v : Tail) → tail_after v tokens ≡ Some u → AreIn (section_of v) tokens) → (o : Option Tail) → next_tail t token ≡ o → option_and_then (λ v. tail_after v tokens) o ≡ Some u → AreIn (section_of t) (token ∷ tokens)
    go later None is f = absurd cc
    go later (Some v) is f =
        let s = passes t token v is in (s.around, subst (λ (o : Option ℕ). AreIn o tokens) (sym s.behind) (later v f))

tails_past : (tokens : List Token) (t u : Tail) → tail_after t tokens ≡ Some u → section_of u ≡ fold (λ section token. section_behind token) (section_of t) tokens
tails_past [] t u e = ap section_of (sym (tail_is t u e))
tails_past (token ∷ tokens) t u e = go (λ v f. tails_past tokens v u f) (next_tail t token) refl e
  where
    go : ((v : Tail) → tail_after v tokens ≡ Some u → section_of u ≡ fold (λ section token. section_behind token) (section_of v) tokens) → (o : Option Tail) → next_tail t token ≡ o
        → option_and_then (λ v. tail_after v tokens) o ≡ Some u → section_of u ≡ fold (λ section token. section_behind token) (section_of t) (token ∷ tokens)
    go later None is f = absurd cc
    go later (Some v) is f = later v f ∙ ap (λ (o : Option ℕ). fold (λ section token. section_behind token) o tokens) (sym (passes t token v is).behind)

-- tokens that lead somewhere stand in the sections of their place
pub placed_in : (p : Place) (tokens : List Token) (q : Place) → steps p tokens ≡ Some q → AreIn (section_of p.tail) tokens
placed_in p tokens q leads = tails_in tokens p.tail q.tail (parts_of p tokens q leads).tail

pub same_section : (tokens : List Token) (q : Place) → steps first_place tokens ≡ Some q → section_of q.tail ≡ section_past tokens
same_section tokens q leads = tails_past tokens (Text 0) q.tail (parts_of first_place tokens q leads).tail

-- ---- a stretch of a section

stretch_distinct : (run : List ℕ) → list_all has_distinct (map (cdata 0) run) ≡ true
stretch_distinct [] = refl
stretch_distinct (b ∷ run) = stretch_distinct run

stretch_nests : (p : Nesting) (run : List ℕ) → is_nothing p.names ≡ false → nests p (map (cdata 0) run) ≡ Some p
stretch_nests p [] h = refl
stretch_nests p (b ∷ run) h = rw h (stretch_nests p run h)

stretch_tail : (run : List ℕ) → tail_after (Section 0) (map (cdata 0) run) ≡ Some (Section 0)
stretch_tail [] = refl
stretch_tail (b ∷ run) = stretch_tail run

stretch_order : (p : Prolog) (run : List ℕ) → prolog_after p (map (cdata 0) run) ≡ prolog_after p (map raw run)
stretch_order p [] = refl
stretch_order p (b ∷ run) = stretch_order (further p) run

pub stretch_ok : (p : Place) (run : List ℕ) (i : Prolog) → is_nothing p.nesting.names ≡ false → p.tail ≡ Section 0 → prolog_after p.prolog (map raw run) ≡ Some i
    → steps p (map (cdata 0) run) ≡ Some (record { nesting = p.nesting; tail = p.tail; prolog = i })
stretch_ok p run i h is order =
    steps_of p (map (cdata 0) run) (record { nesting = p.nesting; tail = p.tail; prolog = i }) (record {
      distinct = stretch_distinct run;
      nesting = stretch_nests p.nesting run h;
      tail = ap (λ (t : Tail). tail_after t (map (cdata 0) run)) is ∙ stretch_tail run ∙ ap (λ (t : Tail). Some t) (sym is);
      order = stretch_order p.prolog run ∙ order;
    })

stretch_first : (p : Place) (b : ℕ) (run : List ℕ) → steps p (cdata 0 b ∷ []) ≡ None → steps p (map (cdata 0) (b ∷ run)) ≡ None
stretch_first p b run none = steps-append p (cdata 0 b ∷ []) (map (cdata 0) run) ∙ ap (option_and_then (λ q. steps q (map (cdata 0) run))) none

pub stretch_outside : (p : Place) (run : List ℕ) → (length run ≡ 0 → ⊥) → is_nothing p.nesting.names ≡ true → steps p (map (cdata 0) run) ≡ None
stretch_outside p [] some h = absurd (some refl)
stretch_outside p (b ∷ run) some h = stretch_first p b run (rw h refl)

pub stretch_elsewhere : (p : Place) (run : List ℕ) → (length run ≡ 0 → ⊥) → ((b : ℕ) → next_tail p.tail (cdata 0 b) ≡ None) → steps p (map (cdata 0) run) ≡ None
stretch_elsewhere p [] some none = absurd (some refl)
stretch_elsewhere p (b ∷ run) some none =
    stretch_first p b run
    (ap (λ (o : Option Tail). place_from (nests p.nesting (cdata 0 b ∷ [])) (option_and_then (λ t. tail_after t []) o) (prolog_after p.prolog (cdata 0 b ∷ []))) (none b)
    ∙ none_right (nests p.nesting (cdata 0 b ∷ [])) (prolog_after p.prolog (cdata 0 b ∷ [])))
