-- The numbers that are held, in one walk over those that have something.
use Rattle.std.proofs.Common.{◌≡◌, ◌≢◌, ◌+◌, ◌<◌, ◌≤◌, ℕ, Bool, true, false, List, [], ◌∷◌, ◌++◌, Option, Some, None, IsSome, refl, sym, subst, arith, cond, nat_eq, ◌⊎◌, inl, inr}
use Rattle.std.specs.Map.{keys_of}
use Rattle.std.specs.List.{All, Contains}
use Rattle.std.proofs.lemmas.Bool.{cases_lt}
use Rattle.std.proofs.lemmas.Bool.Decides.{nat_tests}
use Rattle.std.proofs.lemmas.List.{append_assoc, append-nil}
use Rattle.std.proofs.lemmas.List.Elements.{All-cons, All-contains, All-nil, Contains-append_left, Contains-append_right, Contains-push}
use Rattle.series_rules.specs.Gaps.{AreHeldFrom}
use Rattle.series_rules.proofs.GapLemmas.{held_gap, held_none, held_rest}
use Rattle.series_rules.specs.Series.{IsNext}
use Rattle.series_rules.specs.declared.requests.Standing.{Standing}
use Rattle.desk_memory.proofs.Walks.{Rest, at, at_test, rest_first, rest_more}

-- the numbers of a rest are those that have something

first_contained : (n : ℕ) (ns : List ℕ) → Contains (n ∷ ns) n
first_contained n ns = Contains-append_left (n ∷ []) ns n (Contains-push [] n)

has_key : (es : List (ℕ × Standing)) (n : ℕ) → IsSome (at es n) → Contains (keys_of es) n
has_key [] n some = absurd cc
has_key (e ∷ es) n some = go (λ rest. has_key es n rest) (nat_eq n e.0) refl (subst (λ b. IsSome (cond b (Some e.1) (at es n))) (at_test n e.0) some)
  where
    go : (IsSome (at es n) → Contains (keys_of es) n) → (b : Bool) → nat_eq n e.0 ≡ b → IsSome (cond b (Some e.1) (at es n)) → Contains (e.0 ∷ keys_of es) n
    go rest true t some = let same : e.0 ≡ n = grind (arith, nat_tests) in subst (Contains (e.0 ∷ keys_of es)) same (first_contained e.0 (keys_of es))
    go rest false t some = Contains-append_right (e.0 ∷ []) (keys_of es) n (rest some)

all_stand : (f : ℕ → Option Standing) (es : List (ℕ × Standing)) (from : ℕ) → Rest f from es → All (λ n. IsSome (f n)) (keys_of es)
all_stand f [] from rest = All-nil (λ n. IsSome (f n))
all_stand f (e ∷ es) from rest =
    All-cons (λ n. IsSome (f n)) e.0 (keys_of es) (subst IsSome (sym (rest_first f from e es rest)) refl) (all_stand f es (e.0 + 1) (rest_more f from e es rest))

rest_held : (f : ℕ → Option Standing) (from : ℕ) (es : List (ℕ × Standing)) → Rest f from es → AreHeldFrom f from (keys_of es)
rest_held f from es rest = record {
  in_order = rest.rises;
  all_held = λ n le some. has_key es n (subst IsSome (sym (rest.same n le)) some);
  only_held = all_stand f es from rest;
}

-- up to `next` all have something, and the numbers so far and those that are left are all that do from there on
pub record Walked (f : ℕ → Option Standing) (from next : ℕ) (held : List ℕ) (es : List (ℕ × Standing)) : Type 0 where
  pub above : from ≤ next
  pub below : (k : ℕ) → from ≤ k → k < next → IsSome (f k)
  pub are_held : AreHeldFrom f next (held ++ keys_of es)
  pub lacks : (held ≡ []) ⊎ (f next ≡ None)

pub walk_start : (f : ℕ → Option Standing) (from : ℕ) (es : List (ℕ × Standing)) → Rest f from es → Walked f from from [] es
walk_start f from es rest = record {
  above = omega arith;
  below = λ k le lt. absurd (omega arith);
  are_held = rest_held f from es rest;
  lacks = inl refl;
}

-- the next number has something
pub walk_next : (f : ℕ → Option Standing) (from next : ℕ) (held : List ℕ) (e : ℕ × Standing) (es : List (ℕ × Standing)) → Walked f from next held (e ∷ es) → e.0 ≡ next → Walked f from (next + 1) held es
walk_next f from next held e es was here =
    let low : from ≤ next = was.above in
    let some : IsSome (f e.0) = All-contains (λ n. IsSome (f n)) (held ++ e.0 ∷ keys_of es) e.0 was.are_held.only_held (Contains-append_right held (e.0 ∷ keys_of es) e.0 (first_contained e.0 (keys_of es))) in
    let some' : IsSome (f next) = subst (λ n. IsSome (f n)) here some in
    let none = none_yet some' was.lacks in
    let left : AreHeldFrom f next (e.0 ∷ keys_of es) = subst (λ hs. AreHeldFrom f next (hs ++ e.0 ∷ keys_of es)) none was.are_held in
    record {
      above = omega arith;
      below = λ k le lt. go some' k le lt (cases_lt k next);
      are_held = rw none (subst (λ n. AreHeldFrom f (n + 1) (keys_of es)) here (held_rest f next e.0 (keys_of es) left));
      lacks = inl none;
    }
  where
    none_yet : IsSome (f next) → (held ≡ []) ⊎ (f next ≡ None) → held ≡ []
    none_yet some (inl none) = none
    none_yet some (inr lacks) = absurd cc

    go : IsSome (f next) → (k : ℕ) → from ≤ k → k < next + 1 → (k < next) ⊎ (next ≤ k) → IsSome (f k)
    go some k le lt (inl less) = was.below k le less
    go some k le lt (inr ge) = let same : next ≡ k = omega arith in subst (λ n. IsSome (f n)) same some

-- another number has something
pub walk_later : (f : ℕ → Option Standing) (from next : ℕ) (held : List ℕ) (e : ℕ × Standing) (es : List (ℕ × Standing)) → Walked f from next held (e ∷ es) → e.0 ≢ next → Walked f from next (held ++ e.0 ∷ []) es
walk_later f from next held e es was other = record {
  above = was.above;
  below = was.below;
  are_held = subst (AreHeldFrom f next) (sym (append_assoc held (e.0 ∷ []) (keys_of es))) was.are_held;
  lacks = inr (go was.lacks);
}
  where
    go : (held ≡ []) ⊎ (f next ≡ None) → f next ≡ None
    go (inl none) =
        let left : AreHeldFrom f next (e.0 ∷ keys_of es) = subst (λ hs. AreHeldFrom f next (hs ++ e.0 ∷ keys_of es)) none was.are_held in
        let low : next ≤ e.0 = left.in_order.0 in
        held_gap f next e.0 (keys_of es) left next (omega arith) (omega arith)
    go (inr lacks) = lacks

-- no number is left
pub walk_over : (f : ℕ → Option Standing) (from next : ℕ) (held : List ℕ) → Walked f from next held [] → IsNext f from next × AreHeldFrom f next held
walk_over f from next held was =
    let all : AreHeldFrom f next held = subst (AreHeldFrom f next) (append-nil held) was.are_held in
    (record { above = was.above; below = was.below; lacks = go all was.lacks }, all)
  where
    go : AreHeldFrom f next held → (held ≡ []) ⊎ (f next ≡ None) → f next ≡ None
    go all (inl none) = held_none f next (subst (AreHeldFrom f next) none all) next (omega arith)
    go all (inr lacks) = lacks
