-- The entries of a map from bytes: they are in order of their keys, and each is found by its key.
use Rattle.std.proofs.Common.{◌≡◌, ℕ, Bool, true, false, List, [], ◌∷◌, Some, inl, inr, refl, ap, ◌∙◌, subst, cond}
use Rattle.std.specs.Prelude.{T, ◌&&◌}
use Rattle.std.specs.Cmp.{tied_itself}
use Rattle.std.specs.Cmp.Lexicographic.{slice_cmp}
use Rattle.std.specs.FinMap as fin
use Rattle.std.specs.FinMap.{FinMap, entries, entries_sorted, find, get-entries, is_sorted}
use Rattle.std.specs.FinMap.Entries.{below_all}
use Rattle.std.specs.Ordering.{eq_by_cmp, is_eq, is_lt, nat_cmp, ordering_reverse}
use Rattle.std.specs.declared.cmp.Ordering.{Ordering}
use Rattle.std.specs.declared.cmp.Ordering.TheVariants.{Less, Equal, Greater}
use Rattle.std.proofs.lemmas.Cmp.{nat_list_cmp_total}
use Rattle.series_rules.specs.OfferLaws.{AreInOrder}
use Rattle.series_rules.proofs.Elements.{In, Ordered}

first : (a b : Bool) → T (a && b) → T a
first true b p = tt
first false b p = absurd p

second : (a b : Bool) → T (a && b) → T b
second true b p = p
second false b p = absurd p

less : (r : Ordering) → T (is_lt r) → r ≡ Less
less Less p = refl
less Equal p = absurd p
less Greater p = absurd p

module _ {X : Type 0} where
  below_in : (k : List ℕ) (es : List (List ℕ × X)) → T (below_all (slice_cmp nat_cmp) k es) → (e : List ℕ × X) → In e es → AreInOrder k e.0
  below_in k [] h e m = absurd m
  below_in k (d ∷ es) h e (inl is) = subst (λ (x : List ℕ × X). AreInOrder k x.0) is (less _ (first _ _ h))
  below_in k (d ∷ es) h e (inr m) = below_in k es (second _ _ h) e m

  ordered_sorted : (es : List (List ℕ × X)) → T (is_sorted (slice_cmp nat_cmp) es) → Ordered (λ (d e : List ℕ × X). AreInOrder d.0 e.0) es
  ordered_sorted [] h = tt
  ordered_sorted (d ∷ es) h = (below_in d.0 es (first _ _ h), ordered_sorted es (second _ _ h))

  pub ordered_entries : (m : FinMap (slice_cmp nat_cmp) X) → Ordered (λ (d e : List ℕ × X). AreInOrder d.0 e.0) (entries m)
  ordered_entries m = ordered_sorted (entries m) (entries_sorted m)

  in_found : (es : List (List ℕ × X)) → T (is_sorted (slice_cmp nat_cmp) es) → (k : List ℕ) (x : X) → In (k, x) es → find (slice_cmp nat_cmp) k es ≡ Some x
  in_found [] h k x m = absurd m
  in_found (e ∷ es) h k x (inl is) =
      let Finds : List ℕ × X → Type 0 = λ d. find (slice_cmp nat_cmp) d.0 (e ∷ es) ≡ Some d.1 in
      subst Finds is (ap (λ r. cond (is_eq r) (Some e.1) (find (slice_cmp nat_cmp) e.0 es)) (tied_itself nat_list_cmp_total e.0))
  in_found (e ∷ es) h k x (inr m) =
      let apart : eq_by_cmp (slice_cmp nat_cmp) k e.0 ≡ false = ap is_eq (nat_list_cmp_total.antisymm k e.0 ∙ ap ordering_reverse (below_in e.0 es (first _ _ h) (k, x) m)) in
      ap (λ b. cond b (Some e.1) (find (slice_cmp nat_cmp) k es)) apart ∙ in_found es (second _ _ h) k x m

  pub get_in : (m : FinMap (slice_cmp nat_cmp) X) (k : List ℕ) (x : X) → In (k, x) (entries m) → fin.get m k ≡ Some x
  get_in m k x there = get-entries m k ∙ in_found (entries m) (entries_sorted m) k x there
