-- A walk over some keys of a map, in order, finds what a walk over all entries finds, if the other entries have nothing.
use Rattle.std.proofs.Common.{◌≡◌, List, [], ◌∷◌, ◌++◌, Option, Some, None, Bool, true, false, cond, ◌⊎◌, inl, inr, ⊎_elim, refl, sym, ap, subst, ◌∙◌}
use Rattle.std.specs.Prelude.{T, ◌&&◌, ◌||◌}
use Rattle.std.specs.Cmp.{IsTotalOrder, tied_itself}
use Rattle.std.specs.FinMap.{IsAntisymmetric, find, is_sorted}
use Rattle.std.specs.FinMap.Entries.{below_all}
use Rattle.std.specs.List.{AllByRecursion, flat_map, list_any}
use Rattle.std.specs.List.Sorted.{IsStrictlySortedBy}
use Rattle.std.specs.Ordering.{eq_by_cmp, is_eq, is_lt, ordering_reverse}
use Rattle.std.specs.declared.cmp.Ordering.{Ordering}
use Rattle.std.specs.declared.cmp.Ordering.TheVariants.{Less, Equal, Greater}
use Rattle.std.proofs.lemmas.Map.Keys.{sorted_head, sorted_tail}

first : (a b : Bool) → T (a && b) → T a
first true b p = tt
first false b p = absurd p

second : (a b : Bool) → T (a && b) → T b
second true b p = p
second false b p = absurd p

both : (a b : Bool) → T a → T b → T (a && b)
both true b p q = q
both false b p q = absurd p

less : (r : Ordering) → T (is_lt r) → r ≡ Less
less Less p = refl
less Equal p = absurd p
less Greater p = absurd p

tied : (r : Ordering) → is_eq r ≡ true → r ≡ Equal
tied Less t = cc
tied Equal t = refl
tied Greater t = cc

by_other : (b c : Bool) → b ≡ false → (b || c) ≡ true → c ≡ true
by_other true c e h = cc
by_other false c e h = h

-- F is what a key with what it has is worth
module _ {K S X A : Type 0} {R : K → K → Ordering} (o : IsTotalOrder R) (exact : IsAntisymmetric R) (key : S → K)
    (F : K → Option X → List A) (nothing : (k : K) → F k None ≡ []) where
  -- that of the entries
  abbrev all_of : List (K × X) → List A
  all_of es = flat_map (λ e. F e.0 (Some e.1)) es

  -- that of the keys
  abbrev walk : List (K × X) → List S → List A
  walk es ss = flat_map (λ s. F (key s) (find R (key s) es)) ss

  abbrev Follow : K → List S → Type 0
  Follow k ss = AllByRecursion (λ s. R k (key s) ≡ Less) ss

  abbrev is_walked : K → List S → Bool
  is_walked k ss = list_any (λ s. eq_by_cmp R k (key s)) ss

  abbrev RestHasNothing : List (K × X) → List S → Type 0
  RestHasNothing es ss = (k : K) (x : X) → find R k es ≡ Some x → (F k (Some x) ≡ []) ⊎ (is_walked k ss ≡ true)

  apart : (x y : K) → R x y ≡ Less → eq_by_cmp R y x ≡ false
  apart x y p = ap is_eq (o.antisymm y x ∙ ap ordering_reverse p)

  found_first : (e : K × X) (es : List (K × X)) → find R e.0 (e ∷ es) ≡ Some e.1
  found_first e es = ap (λ r. cond (is_eq r) (Some e.1) (find R e.0 es)) (tied_itself o e.0)

  none_below : (k : K) (es : List (K × X)) → T (below_all R k es) → find R k es ≡ None
  none_below k [] h = refl
  none_below k (e ∷ es) h = ap (λ r. cond (is_eq r) (Some e.1) (find R k es)) (less _ (first _ _ h)) ∙ none_below k es (second _ _ h)

  below_less : (x y : K) (es : List (K × X)) → R x y ≡ Less → T (below_all R y es) → T (below_all R x es)
  below_less x y [] p h = tt
  below_less x y (e ∷ es) p h = both _ _ (subst (λ r. T (is_lt r)) (sym (o.trans x y e.0 p (less _ (first _ _ h)))) tt) (below_less x y es p (second _ _ h))

  -- a key below all entries is none of those that are found
  not_below : (k q : K) (x : X) (es : List (K × X)) → T (below_all R k es) → find R q es ≡ Some x → eq_by_cmp R q k ≡ false
  not_below k q x es h found =
      elim (eq_by_cmp R q k) as (λ b. eq_by_cmp R q k ≡ b → b ≡ false) [
        | true ↦ λ t. let none = ap (λ y. find R y es) (exact q k (tied (R q k) t)) ∙ none_below k es h in absurd cc
        | false ↦ λ t. refl
      ] refl

  still_found : (e : K × X) (es : List (K × X)) (q : K) (x : X) → T (is_sorted R (e ∷ es)) → find R q es ≡ Some x → find R q (e ∷ es) ≡ Some x
  still_found e es q x g found = ap (λ b. cond b (Some e.1) (find R q es)) (not_below e.0 q x es (first _ _ g) found) ∙ found

  walk_nothing : (ss : List S) → walk [] ss ≡ []
  walk_nothing [] = refl
  walk_nothing (s ∷ ss) = ap (λ xs. xs ++ walk [] ss) (nothing (key s)) ∙ walk_nothing ss

  -- keys that follow the first entry do not find it
  walk_past : (e : K × X) (es : List (K × X)) (ss : List S) → Follow e.0 ss → walk (e ∷ es) ss ≡ walk es ss
  walk_past e es [] h = refl
  walk_past e es (s ∷ ss) h = λ i. F (key s) (cond (apart e.0 (key s) h.0 i) (Some e.1) (find R (key s) es)) ++ walk_past e es ss h.1 i

  unwalked : (k : K) (ss : List S) → Follow k ss → is_walked k ss ≡ false
  unwalked k [] h = refl
  unwalked k (s ∷ ss) h = λ i. is_eq (h.0 i) || unwalked k ss h.1 i

  follow_less : (x y : K) (ss : List S) → R x y ≡ Less → Follow y ss → Follow x ss
  follow_less x y [] p h = tt
  follow_less x y (s ∷ ss) p h = (o.trans x y (key s) p h.0, follow_less x y ss p h.1)

  has_nothing : (k : K) (x : X) (ss : List S) → is_walked k ss ≡ false → (F k (Some x) ≡ []) ⊎ (is_walked k ss ≡ true) → F k (Some x) ≡ []
  has_nothing k x ss e h = ⊎_elim (λ n. n) (λ w. absurd cc) h

  abbrev AreInOrder : List S → Type 0
  AreInOrder ss = IsStrictlySortedBy (λ x y. R (key x) (key y)) ss

  -- one entry before others, for which it is known
  module _ (e : K × X) (es : List (K × X)) (g : T (is_sorted R (e ∷ es))) (known : (ss : List S) → AreInOrder ss → RestHasNothing es ss → walk es ss ≡ all_of es) where
    -- the entry has nothing, and the keys follow it
    skip : (ss : List S) → Follow e.0 ss → AreInOrder ss → RestHasNothing (e ∷ es) ss → walk (e ∷ es) ss ≡ all_of (e ∷ es)
    skip ss follow h rest =
        walk_past e es ss follow
        ∙ known ss h (λ k x found. rest k x (still_found e es k x g found))
        ∙ ap (λ xs. xs ++ all_of es) (sym (has_nothing e.0 e.1 ss (unwalked e.0 ss follow) (rest e.0 e.1 (found_first e es))))

    -- the first key finds the entry
    meet : (s : S) (ss : List S) → R e.0 (key s) ≡ Equal → AreInOrder (s ∷ ss) → RestHasNothing (e ∷ es) (s ∷ ss) → walk (e ∷ es) (s ∷ ss) ≡ all_of (e ∷ es)
    meet s ss p h rest =
        let same : e.0 ≡ key s = exact e.0 (key s) p in
        let follow : Follow e.0 ss = subst (λ k. Follow k ss) (sym same) (sorted_head (λ x y. R (key x) (key y)) s ss h) in
        let here : F (key s) (find R (key s) (e ∷ es)) ≡ F e.0 (Some e.1) = ap (λ k. F k (find R k (e ∷ es))) (sym same) ∙ ap (F e.0) (found_first e es) in
        ap (λ xs. xs ++ walk (e ∷ es) ss) here
        ∙ ap (λ xs. F e.0 (Some e.1) ++ xs)
        (walk_past e es ss follow
        ∙ known ss (sorted_tail (λ x y. R (key x) (key y)) s ss h)
        (λ k x found. ⊎_elim (λ n. inl n)
        (λ w. inr (by_other (eq_by_cmp R k (key s)) (is_walked k ss) (subst (λ y. eq_by_cmp R k y ≡ false) same (not_below e.0 k x es (first _ _ g) found)) w))
        (rest k x (still_found e es k x g found))))

    with_first : (ss : List S) → AreInOrder ss → RestHasNothing (e ∷ es) ss → walk (e ∷ es) ss ≡ all_of (e ∷ es)
    with_first [] h rest = skip [] tt h rest
    with_first (s ∷ ss) h rest =
        elim (R e.0 (key s)) as (λ c. R e.0 (key s) ≡ c → walk (e ∷ es) (s ∷ ss) ≡ all_of (e ∷ es)) [
          | Less ↦ λ p. skip (s ∷ ss) (p, follow_less e.0 (key s) ss p (sorted_head (λ x y. R (key x) (key y)) s ss h)) h rest
          | Equal ↦ λ p. meet s ss p h rest
          | Greater ↦ λ p.
              let under : R (key s) e.0 ≡ Less = o.antisymm (key s) e.0 ∙ ap ordering_reverse p in
              let below : T (below_all R (key s) (e ∷ es)) = both _ _ (subst (λ r. T (is_lt r)) (sym under) tt) (below_less (key s) e.0 es under (first _ _ g)) in
              ap (λ x. F (key s) x ++ walk (e ∷ es) ss) (none_below (key s) (e ∷ es) below)
              ∙ ap (λ xs. xs ++ walk (e ∷ es) ss) (nothing (key s))
              ∙ with_first ss (sorted_tail (λ x y. R (key x) (key y)) s ss h)
              (λ k x found. ⊎_elim (λ n. inl n)
              (λ w. inr (by_other (eq_by_cmp R k (key s)) (is_walked k ss) (not_below (key s) k x (e ∷ es) below found) w))
              (rest k x found))
        ] refl

  pub walk_is_all : (es : List (K × X)) (ss : List S) → T (is_sorted R es) → AreInOrder ss → RestHasNothing es ss → walk es ss ≡ all_of es
  walk_is_all [] ss g h rest = walk_nothing ss
  walk_is_all (e ∷ es) ss g h rest = with_first e es g (λ ss h rest. walk_is_all es ss (second _ _ g) h rest) ss h rest
