-- What is left of pairs of a type and a value while they are read one after the other.
use Rattle.std.proofs.Common.{◌≡◌, ◌≤◌, ◌<◌, ◌∷◌, ◌++◌, ◌-◌, ◌∙◌, [], ℕ, List, Option, Some, None, true, false, ap, sym, arith, length, take, drop, get_or, map, append_assoc}
use Rattle.std.specs.Prelude.{◌==◌}
use Rattle.std.proofs.Math.Seq.{take-length}
use Rattle.std.proofs.lemmas.List.{append-nil}
use Rattle.onix_terms.specs.Options.{◌>>=◌}
use Rattle.onix_records.specs.Product.{identifier_of, pairs_of}
use Rattle.onix_records.specs.declared.parts.ProductIdentifier.{ProductIdentifier}

-- with those that were read, the rest makes all
abbrev pub Completes : List (List ℕ) → List ProductIdentifier → Option (List ProductIdentifier) → Type 0
Completes rest ids all = (pairs_of rest >>= (λ more. Some (ids ++ more))) ≡ all

one-more : (left : Option (List ProductIdentifier)) (ids : List ProductIdentifier) (id : ProductIdentifier) (all : Option (List ProductIdentifier))
    → ((left >>= (λ more. Some (id ∷ more))) >>= (λ more. Some (ids ++ more))) ≡ all → (left >>= (λ more. Some ((ids ++ id ∷ []) ++ more))) ≡ all
one-more None ids id all e = e
one-more (Some more) ids id all e = ap Some (append_assoc ids (id ∷ []) more) ∙ e

-- The rest are values that stand for texts, as f says.

pub pairs-more : {X : Type 0} (f : X → List ℕ) (d : X) (rest : List X) (ids new : List ProductIdentifier) (all : Option (List ProductIdentifier)) (id : ProductIdentifier)
    → 2 ≤ length rest → identifier_of (f (get_or rest 0 d)) (f (get_or rest 1 d)) ≡ Some id → new ≡ ids ++ id ∷ []
    → Completes (map f rest) ids all → Completes (map f (take (length rest - 2) (drop 2 rest))) new all
unfolding pairs_of
pairs-more f d [] ids new all id two reads last e = absurd (omega (arith, two))
pairs-more f d (x ∷ []) ids new all id two reads last e = absurd (omega (arith, two))
pairs-more f d (x ∷ y ∷ more) ids new all id two reads last e =
    let left : length (x ∷ y ∷ more) - 2 ≡ length more = omega arith in
    rw (last, left, take-length more) (one-more (pairs_of (map f more)) ids id all (rw reads at e))

pub pairs-end : {X : Type 0} (f : X → List ℕ) (rest : List X) (ids : List ProductIdentifier) (all : Option (List ProductIdentifier)) → true ≡ (length rest == 0) → Completes (map f rest) ids all → all ≡ Some ids
unfolding pairs_of
pairs-end f [] ids all empty e = sym e ∙ ap Some (append-nil ids)
pairs-end f (x ∷ rest) ids all empty e = grind arith

pub pairs-odd : {X : Type 0} (f : X → List ℕ) (rest : List X) (ids : List ProductIdentifier) (all : Option (List ProductIdentifier)) → length rest < 2 → false ≡ (length rest == 0) → Completes (map f rest) ids all → all ≡ None
unfolding pairs_of
pairs-odd f [] ids all few filled e = cc filled
pairs-odd f (x ∷ []) ids all few filled e = sym e
pairs-odd f (x ∷ y ∷ rest) ids all few filled e = absurd (omega (arith, few))
