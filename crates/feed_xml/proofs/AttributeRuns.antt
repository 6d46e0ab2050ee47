-- Attributes, as a loop reads them.
use Rattle.std.proofs.Common.{subst, ◌≡◌, ℕ, zero, suc, ◌-◌, ◌<◌, true, false, List, [], ◌∷◌, ◌++◌, length, take, Ok, Err, refl, sym, ap, ◌∙◌, append_assoc, length-append, arith}
use Rattle.std.specs.Prelude.{◌==◌}
use Rattle.std.specs.List.{list_all, flat_map}
use Rattle.std.proofs.lemmas.List.{append-nil, take_at}
use Rattle.std.proofs.lemmas.List.Folds.{list_all-append}
use Rattle.std.proofs.lemmas.List.Concat.{flat_map-cons}
use Rattle.std.proofs.lemmas.Grind.{flat_map-append}
use Rattle.feed_xml.specs.declared.stop.Stop.{Stop}
use Rattle.feed_xml.specs.declared.stop.Stop.TheVariants.{More}
use Rattle.std.proofs.lemmas.Bool.{and_parts, eqb-true}
use Rattle.feed_xml.specs.Grammar.{Attribute, attribute_text, is_attribute, is_space, begins_name}
use Rattle.feed_xml.specs.Steps.{Step, ◌>>=◌, run}
use Rattle.feed_xml.specs.Reading.{attribute_at, attributes_within, attributes_at, attributes_in}
use Rattle.feed_xml.proofs.PartLaws.{run_takes, run_again, name_stops}
use Rattle.feed_xml.specs.AttributeView.{Spell}
use Rattle.feed_xml.proofs.StepLaws.{ok_is}
use Rattle.feed_xml.proofs.AttributeLaws.{attribute_takes, attributes_again, shorter, at_most, ends_at, regroup as regroup_one, attribute_again, tail, fine}

-- what was read before, and what is still read
abbrev pub with_before : List Attribute → Step (List Attribute) → Step (List Attribute)
with_before front read = read >>= λ x. Ok (front ++ x.0, x.1)

regroup : (front : List Attribute) (a : Attribute) (read : Step (List Attribute)) → with_before front (read >>= λ x. Ok (a ∷ x.0, x.1)) ≡ with_before (front ++ a ∷ []) read
regroup front a (Ok x) = ap (λ (l : List Attribute). Ok (l, x.1)) (simp append_assoc)
regroup front a (Err f) = refl

no_front : (read : Step (List Attribute)) → with_before [] read ≡ read
no_front (Ok x) = refl
no_front (Err f) = refl

-- So much is known before each attribute.
pub record SoFar (bytes rest : List ℕ) : Type 0 where
  pub most : ℕ
  pub done : List Attribute
  pub enough : length rest < most
  pub text : bytes ≡ flat_map attribute_text done ++ rest
  pub all : list_all is_attribute done ≡ true
  pub so_far : with_before done (attributes_within most rest) ≡ attributes_at bytes

pub at_first : (bytes : List ℕ) → SoFar bytes bytes
unfolding attributes_at
at_first bytes = record {
  most = suc (length bytes);
  done = [];
  enough = omega arith;
  text = refl;
  all = refl;
  so_far = no_front (attributes_within (suc (length bytes)) bytes);
}

pub space_fails : (bytes rest : List ℕ) (e : Stop) → SoFar bytes rest → run is_space rest ≡ Err e → attributes_at bytes ≡ Err e
unfolding attributes_within
space_fails bytes rest e s fails = go s.most s.done s.enough s.so_far
  where
    go : (most : ℕ) (done : List Attribute) → length rest < most → with_before done (attributes_within most rest) ≡ attributes_at bytes → attributes_at bytes ≡ Err e
    go zero done enough so_far = absurd (omega (arith, enough))
    go (suc n) done enough so_far = sym so_far ∙ rw fails refl

pub attribute_fails : (bytes rest : List ℕ) (x : List ℕ × List ℕ) (e : Stop) → SoFar bytes rest → run is_space rest ≡ Ok x → begins_name x.1 ≡ true
    → attribute_at x.0 x.1 ≡ Err e → attributes_at bytes ≡ Err e
unfolding attributes_within
attribute_fails bytes rest x e s space begin fails = go s.most s.done s.enough s.so_far
  where
    go : (most : ℕ) (done : List Attribute) → length rest < most → with_before done (attributes_within most rest) ≡ attributes_at bytes → attributes_at bytes ≡ Err e
    go zero done enough so_far = absurd (omega (arith, enough))
    go (suc n) done enough so_far = sym so_far ∙ rw (space, begin, fails) refl

pub one_more : (bytes rest : List ℕ) (x : List ℕ × List ℕ) (y : Attribute × List ℕ) → SoFar bytes rest → run is_space rest ≡ Ok x → begins_name x.1 ≡ true
    → attribute_at x.0 x.1 ≡ Ok y → SoFar bytes y.1
unfolding attributes_within
one_more bytes rest x y s space begin found = go s.most s.enough s.so_far
  where
    less : length y.1 < length rest
    less = omega (arith, shorter x.0 x.1 y found, ap length (run_takes is_space rest x space).0)

    text : bytes ≡ flat_map attribute_text (s.done ++ y.0 ∷ []) ++ y.1
    text =
        let taken = run_takes is_space rest x space in
        let read = attribute_takes x.0 x.1 y found in
        s.text ∙ ap (λ (t : List ℕ). flat_map attribute_text s.done ++ t) (taken.0 ∙ read.0)
        ∙ sym (append_assoc (flat_map attribute_text s.done) (attribute_text y.0) y.1)
        ∙ ap (λ (t : List ℕ). (flat_map attribute_text s.done ++ t) ++ y.1) (sym (flat_map-cons attribute_text y.0 [] ∙ append-nil (attribute_text y.0)))
        ∙ ap (λ (t : List ℕ). t ++ y.1) (sym (flat_map-append attribute_text s.done (y.0 ∷ [])))

    all : list_all is_attribute (s.done ++ y.0 ∷ []) ≡ true
    all =
        let taken = run_takes is_space rest x space in
        let read = attribute_takes x.0 x.1 y found in
        list_all-append is_attribute s.done (y.0 ∷ []) ∙ rw (s.all, read.1 taken.1) refl

    go : (most : ℕ) → length rest < most → with_before s.done (attributes_within most rest) ≡ attributes_at bytes → SoFar bytes y.1
    go zero enough so_far = absurd (omega (arith, enough))
    go (suc n) enough so_far = record {
      most = n;
      done = s.done ++ y.0 ∷ [];
      enough = omega (arith, less);
      text = text;
      all = all;
      so_far =
          let one : with_before s.done (attributes_within (suc n) rest) ≡ with_before (s.done ++ y.0 ∷ []) (attributes_within n y.1) =
          rw (space, begin, found) (regroup s.done y.0 (attributes_within n y.1)) in
          sym one ∙ so_far;
    }

in_whole : (done : List Attribute) → list_all is_attribute done ≡ true → attributes_in (flat_map attribute_text done) ≡ done
unfolding attributes_in attributes_at
in_whole done all =
    let few : length done < suc (length (flat_map attribute_text done ++ 62 ∷ [])) = omega (arith, at_most done, length-append (flat_map attribute_text done) (62 ∷ [])) in
    rw (attributes_again done (suc (length (flat_map attribute_text done ++ 62 ∷ []))) (62 ∷ []) all few (ends_at 62 [] refl refl)) refl

pub no_more : (bytes rest : List ℕ) (x : List ℕ × List ℕ) → SoFar bytes rest → run is_space rest ≡ Ok x → begins_name x.1 ≡ false
    → attributes_at bytes ≡ Ok (attributes_in (take (length bytes - length rest) bytes), rest)
unfolding attributes_within
no_more bytes rest x s space none = go s.most s.enough s.so_far
  where
    front : take (length bytes - length rest) bytes ≡ flat_map attribute_text s.done
    front =
        let size : length bytes - length rest ≡ length (flat_map attribute_text s.done) = omega (arith, ap length s.text, length-append (flat_map attribute_text s.done) rest) in
        rw size (ap (take (length (flat_map attribute_text s.done))) s.text ∙ take_at (flat_map attribute_text s.done) rest (length (flat_map attribute_text s.done)) refl)

    go : (most : ℕ) → length rest < most → with_before s.done (attributes_within most rest) ≡ attributes_at bytes → attributes_at bytes ≡ Ok (attributes_in (take (length bytes - length rest) bytes), rest)
    go zero enough so_far = absurd (omega (arith, enough))
    go (suc n) enough so_far = rw (front, in_whole s.done s.all) (sym so_far ∙ rw (space, none, append-nil) refl)

-- what was read so far are attributes
pub spells : (bytes rest : List ℕ) → SoFar bytes rest → Spell (take (length bytes - length rest) bytes) (attributes_in (take (length bytes - length rest) bytes))
spells bytes rest s =
    let text = flat_map attribute_text s.done in
    let size : length bytes - length rest ≡ length text = omega (arith, ap length s.text, length-append text rest) in
    let front : take (length bytes - length rest) bytes ≡ text = rw size (ap (take (length text)) s.text ∙ take_at text rest (length text) refl) in
    rw (front, in_whole s.done s.all) (record { text = refl; each = s.all })

-- what bytes spell is what is read of them
pub spell_is : (bytes : List ℕ) (list : List Attribute) → Spell bytes list → attributes_in bytes ≡ list
spell_is bytes list s = ap attributes_in s.text ∙ in_whole list s.each

pub spell_of : (bytes : List ℕ) (list : List Attribute) → Spell bytes list → Spell bytes (attributes_in bytes)
spell_of bytes list s = subst (Spell bytes) (sym (spell_is bytes list s)) s

-- ---- the first of several

record First (bytes : List ℕ) (a : Attribute) (others : List ℕ) : Type 0 where
  space : run is_space bytes ≡ Ok (a.before, tail a others)
  read : attribute_at a.before (tail a others) ≡ Ok (a, others)

first_of : (bytes : List ℕ) (a : Attribute) (list : List Attribute) → Spell bytes (a ∷ list) → First bytes a (flat_map attribute_text list) × (list_all is_attribute list ≡ true)
first_of bytes a list s =
    let parts = and_parts (is_attribute a) (list_all is_attribute list) s.each in
    let f = fine a parts.0 in
    let others = flat_map attribute_text list in
    let whole : bytes ≡ a.before ++ tail a others = s.text ∙ flat_map-cons attribute_text a list ∙ sym (regroup_one a.before a.name a.left a.right a.value others a.quote) in
    let stops = name_stops a.name (a.left ++ (61 ∷ (a.right ++ (a.quote ∷ (a.value ++ (a.quote ∷ others)))))) f.name in (
      record {
        space = ap (run is_space) whole ∙ run_again is_space a.before (tail a others) f.before stops.0;
        read = attribute_again a others f;
      },
      parts.1,
    )

no_space : (bytes : List ℕ) → Spell bytes [] → run is_space bytes ≡ Err More
unfolding run
no_space bytes s = ap (run is_space) s.text

abbrev pub Others : Attribute × List ℕ → List Attribute → Type 0
Others y list = (others : List Attribute) × (list ≡ y.0 ∷ others) × Spell y.1 others

pub next_some : (bytes : List ℕ) (x : List ℕ × List ℕ) (y : Attribute × List ℕ) (list : List Attribute) → run is_space bytes ≡ Ok x → attribute_at x.0 x.1 ≡ Ok y → Spell bytes list → Others y list
next_some bytes x y [] e h s =
    let none = no_space bytes s in
    absurd cc
next_some bytes x y (a ∷ list) e h s =
    let f = first_of bytes a list s in
    let others = flat_map attribute_text list in
    let front : List ℕ × List ℕ = (a.before, tail a others) in
    let same : front ≡ x = ok_is front x (sym f.0.space ∙ e) in
    let made : Attribute × List ℕ = (a, others) in
    let read : attribute_at x.0 x.1 ≡ Ok made = subst (λ (z : List ℕ × List ℕ). attribute_at z.0 z.1 ≡ Ok made) same f.0.read in
    subst (λ (z : Attribute × List ℕ). Others z (a ∷ list)) (ok_is made y (sym read ∙ h)) (list, refl, record { text = refl; each = f.1 })

pub next_bad : (bytes : List ℕ) (x : List ℕ × List ℕ) (e : Stop) (list : List Attribute) → run is_space bytes ≡ Ok x → attribute_at x.0 x.1 ≡ Err e → Spell bytes list → list ≡ []
next_bad bytes x e [] r h s = refl
next_bad bytes x e (a ∷ list) r h s =
    let f = first_of bytes a list s in
    let others = flat_map attribute_text list in
    let front : List ℕ × List ℕ = (a.before, tail a others) in
    let same : front ≡ x = ok_is front x (sym f.0.space ∙ r) in
    let made : Attribute × List ℕ = (a, others) in
    let read : attribute_at x.0 x.1 ≡ Ok made = subst (λ (z : List ℕ × List ℕ). attribute_at z.0 z.1 ≡ Ok made) same f.0.read in
    absurd cc

pub next_none : (bytes : List ℕ) (e : Stop) (list : List Attribute) → run is_space bytes ≡ Err e → Spell bytes list → list ≡ []
next_none bytes e [] r s = refl
next_none bytes e (a ∷ list) r s =
    let f = first_of bytes a list s in
    let space = f.0.space in
    absurd cc

-- without bytes there are no attributes
pub none_in : (bytes : List ℕ) → (length bytes == 0) ≡ true → attributes_in bytes ≡ []
unfolding attributes_in attributes_at attributes_within run
none_in [] e = refl
none_in (b ∷ bytes) e = absurd (omega (arith, eqb-true (length (b ∷ bytes)) 0 e))
