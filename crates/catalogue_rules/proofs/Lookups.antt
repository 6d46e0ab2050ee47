-- Maps whose keys are texts or references to texts, read by the bytes of these.
use Rattle.std.proofs.Common.{◌≡◌, ℕ, List, [], ◌∷◌, Option, Some, None, Bool, cond, Global, String, true, false, ◌-◌, ◌<◌, length, is_some, IsSome, ◌⊎◌, inl, inr, ⊎_elim, sym, refl, ap, subst, arith, ◌∙◌}
use Rattle.std.specs.BTreeMap as tree
use Rattle.std.specs.BTreeMap.{BTreeMap, is_at}
use Rattle.std.specs.FinMap as fin
use Rattle.std.specs.FinMap.{FinMap, find, from_entries, get-from_entries, get-insert, get-remove, get-empty, len-remove, empty_of_len, same_map, slice_cmp-IsAntisymmetric, nat_cmp-IsAntisymmetric}
use Rattle.std.specs.Map.{lookup, KeepsOthers}
use Rattle.std.specs.Str.{bytes_eq}
use Rattle.std.specs.String.{string_bytes}
use Rattle.std.specs.Ordering.{nat_cmp, is_eq, eq_by_cmp}
use Rattle.std.specs.declared.cmp.Ordering.{Ordering}
use Rattle.std.specs.declared.cmp.Ordering.TheVariants.{Less, Equal, Greater}
use Rattle.std.specs.Cmp.Lexicographic.{slice_cmp}
use Rattle.std.specs.Bool.{Decides}
use Rattle.std.specs.List.{AllZip, Contains}
use Rattle.std.proofs.lemmas.Bool.{cases_Bool, cases_lt, cond-false, cond-true}
use Rattle.std.proofs.lemmas.Cmp.{nat_list_cmp_total, eq_by_cmp_equiv}
use Rattle.std.proofs.lemmas.List.Elements.{Contains-append_left, Contains-append_right, Contains-append_cases, Contains-push, Contains-push_cases}
use Rattle.std.proofs.lemmas.Slice.Eq.{bytes_eq-Decides}
use Rattle.catalogue_rules.specs.Records.{by_bytes, keyed_by, map_by, map_of}

-- two maps that answer alike are equal
pub equal_maps : {X : Type 0} (m n : FinMap (slice_cmp nat_cmp) X) → ((q : List ℕ) → fin.get m q ≡ fin.get n q) → m ≡ n
equal_maps m n alike = same_map nat_list_cmp_total (slice_cmp-IsAntisymmetric nat_cmp-IsAntisymmetric) m n alike

-- ---- a map after a change at one key

-- now has w at the key k, and at each other key what was has
abbrev pub ChangesAt : {X : Type 0} → FinMap (slice_cmp nat_cmp) X → FinMap (slice_cmp nat_cmp) X → List ℕ → Option X → Type 0
ChangesAt was now k w = (q : List ℕ) → fin.get now q ≡ cond (eq_by_cmp (slice_cmp nat_cmp) q k) w (fin.get was q)

equal_from : (r : Ordering) → is_eq r ≡ true → r ≡ Equal
equal_from Less t = cc
equal_from Equal t = refl
equal_from Greater t = cc

pub same_key : (q k : List ℕ) → eq_by_cmp (slice_cmp nat_cmp) q k ≡ true → q ≡ k
same_key q k t = slice_cmp-IsAntisymmetric nat_cmp-IsAntisymmetric q k (equal_from (slice_cmp nat_cmp q k) t)

pub changed_here : {X : Type 0} (was now : FinMap (slice_cmp nat_cmp) X) (k : List ℕ) (w : Option X) → ChangesAt was now k w → fin.get now k ≡ w
changed_here was now k w u = u k ∙ ap (λ b. cond b w (fin.get was k)) ((eq_by_cmp_equiv nat_list_cmp_total).refl k)

away : (q k : List ℕ) (b : Bool) → eq_by_cmp (slice_cmp nat_cmp) q k ≡ b → (q ≡ k → ⊥) → b ≡ false
away q k true t f = absurd (f (same_key q k t))
away q k false t f = refl

pub changed_there : {X : Type 0} (was now : FinMap (slice_cmp nat_cmp) X) (k q : List ℕ) (w : Option X) → ChangesAt was now k w → (q ≡ k → ⊥) → fin.get now q ≡ fin.get was q
changed_there was now k q w u f = u q ∙ ap (λ b. cond b w (fin.get was q)) (away q k (eq_by_cmp (slice_cmp nat_cmp) q k) refl f)

either_has : {X : Type 0} (P : Option X → Type 0) (was w : Option X) (b : Bool) → P w → P was → P (cond b w was)
either_has P was w true here there = here
either_has P was w false here there = there

-- P holds at a key where it held before, if it holds of w
pub still_has : {X : Type 0} (P : Option X → Type 0) (was now : FinMap (slice_cmp nat_cmp) X) (k q : List ℕ) (w : Option X) → ChangesAt was now k w → P w → P (fin.get was q) → P (fin.get now q)
still_has P was now k q w u here there = subst P (sym (u q)) (either_has P (fin.get was q) w (eq_by_cmp (slice_cmp nat_cmp) q k) here there)

pub still_some : {X : Type 0} (was now : FinMap (slice_cmp nat_cmp) X) (k q : List ℕ) (e : X) → ChangesAt was now k (Some e) → IsSome (fin.get was q) → IsSome (fin.get now q)
still_some was now k q e u h = still_has IsSome was now k q (Some e) u refl h

-- ---- the map that entries make, by the bytes of their keys

module _ {K X : Type 0} (bytes : K → List ℕ) where
  -- what a key with these bytes has
  abbrev found : List (K × X) → List ℕ → Option X
  found es q = lookup (is_at (λ k. slice_cmp nat_cmp q (bytes k))) es

  find_bytes : (es : List (K × X)) (q : List ℕ) → find (slice_cmp nat_cmp) q (keyed_by bytes es) ≡ found es q
  find_bytes [] q = refl
  find_bytes (e ∷ es) q = ap (λ o. cond (is_eq (slice_cmp nat_cmp q (bytes e.0))) (Some e.1) o) (find_bytes es q)

  -- it answers as the entries do
  pub get-map_by : (es : List (K × X)) (q : List ℕ) → fin.get (map_by bytes es) q ≡ lookup (is_at (λ k. slice_cmp nat_cmp q (bytes k))) es
  get-map_by es q = get-from_entries nat_list_cmp_total (keyed_by bytes es) q ∙ find_bytes es q

  -- no entries answer nothing
  pub none_from_empty : (es : List (K × X)) (q : List ℕ) → length es ≡ 0 → fin.get (map_by bytes es) q ≡ None
  none_from_empty [] q e = get-empty (slice_cmp nat_cmp) q
  none_from_empty (x ∷ es) q e = absurd (omega arith)

  -- the tree n is m with w at the bytes k
  abbrev UpdatesAt : List ℕ → BTreeMap K X → BTreeMap K X → Option X → Type 0
  UpdatesAt k m n w = tree.UpdatesBy (λ x y. slice_cmp nat_cmp (bytes x) (bytes y)) (λ x. slice_cmp nat_cmp k (bytes x)) m n w

  -- such a change leaves what other bytes have
  found_there : (k : List ℕ) (m n : BTreeMap K X) (w : Option X) → UpdatesAt k m n w
      → (q : List ℕ) → eq_by_cmp (slice_cmp nat_cmp) q k ≡ false → found n.entries q ≡ found m.entries q
  unfolding KeepsOthers
  found_there k m n w u q there =
      u.3 (is_at (λ x. slice_cmp nat_cmp q (bytes x)))
      (λ x y. (eq_by_cmp_equiv nat_list_cmp_total).congr q (bytes x) (bytes y))
      (λ x here. subst (λ b. eq_by_cmp (slice_cmp nat_cmp) q b ≡ false) (same_key k (bytes x) here) there)

  -- what changes in the tree changes in the map
  pub changes_at-map_by : (k : List ℕ) (m n : BTreeMap K X) (w : Option X) → UpdatesAt k m n w → ChangesAt (map_by bytes m.entries) (map_by bytes n.entries) k w
  changes_at-map_by k m n w u q =
      get-map_by n.entries q
      ∙ ⊎_elim
      (λ here. ap (found n.entries) (same_key q k here) ∙ u.1 ∙ sym (cond-true (eq_by_cmp (slice_cmp nat_cmp) q k) w (found m.entries q) here))
      (λ there. found_there k m n w u q there ∙ sym (cond-false (eq_by_cmp (slice_cmp nat_cmp) q k) w (found m.entries q) there))
      (cases_Bool (eq_by_cmp (slice_cmp nat_cmp) q k))
      ∙ ap (λ o. cond (eq_by_cmp (slice_cmp nat_cmp) q k) w o) (sym (get-map_by m.entries q))

  -- an entry put into the tree is put into the map
  pub insert-map_by : (k : List ℕ) (m n : BTreeMap K X) (v : X) → UpdatesAt k m n (Some v) → map_by bytes n.entries ≡ fin.insert (map_by bytes m.entries) k v
  insert-map_by k m n v u =
      equal_maps _ _ (λ q. changes_at-map_by k m n (Some v) u q ∙ sym (get-insert nat_list_cmp_total (map_by bytes m.entries) k v q))

  -- and so is one that is written in the place of another
  pub write-map_by : (k : List ℕ) (m n : BTreeMap K X) (v : X)
      → tree.WritesThrough (λ x y. slice_cmp nat_cmp (bytes x) (bytes y)) (λ x. slice_cmp nat_cmp k (bytes x)) m v n
      → IsSome (fin.get (map_by bytes m.entries) k) → map_by bytes n.entries ≡ fin.insert (map_by bytes m.entries) k v
  write-map_by k m n v written there = insert-map_by k m n v (written.3 (subst IsSome (get-map_by m.entries k) there))

  -- an entry taken out of the tree is taken out of the map
  pub remove-map_by : (k : List ℕ) (m n : BTreeMap K X) → UpdatesAt k m n None → map_by bytes n.entries ≡ fin.remove (map_by bytes m.entries) k
  remove-map_by k m n u =
      equal_maps _ _ (λ q. changes_at-map_by k m n None u q ∙ sym (get-remove nat_list_cmp_total (map_by bytes m.entries) k q))

-- a copy of the tree makes the same map
pub map_of-clone : {X : Type 0} (es fs : List (String Global × X)) → AllZip (λ p q. (string_bytes q.0 ≡ string_bytes p.0) × (q.1 ≡ p.1)) es fs → map_of fs ≡ map_of es
map_of-clone {X} es fs all = ap (from_entries {R = slice_cmp nat_cmp}) (copied es fs all)
  where
    copied : (es fs : List (String Global × X)) → AllZip (λ p q. (string_bytes q.0 ≡ string_bytes p.0) × (q.1 ≡ p.1)) es fs → by_bytes fs ≡ by_bytes es
    copied [] [] all = refl
    copied [] (f ∷ fs) all = absurd all
    copied (e ∷ es) [] all = absurd all
    copied (e ∷ es) (f ∷ fs) all = λ i. (all.0.0 i, all.0.1 i) ∷ copied es fs all.1 i

not_none : {X : Type 0} (x : X) → Some x ≡ None → ⊥
not_none x e = cc

-- a map loses length by the removal of a key that it has
pub fewer_after : {X : Type 0} (m : FinMap (slice_cmp nat_cmp) X) (k : List ℕ) (v : X) → fin.get m k ≡ Some v → fin.len (fin.remove m k) < fin.len m
fewer_after m k v e =
    let f = len-remove nat_list_cmp_total m k ∙ ap (λ o. cond (is_some o) (fin.len m - 1) (fin.len m)) e in
    ⊎_elim
    (λ lt. omega arith)
    (λ ge. let z : fin.len m ≡ 0 = omega arith in absurd (not_none v (sym e ∙ ap (λ n. fin.get n k) (empty_of_len m z) ∙ get-empty (slice_cmp nat_cmp) k)))
    (cases_lt 0 (fin.len m))

-- ---- a list of keys has a key or not

not_true : false ≡ true → ⊥
not_true e = cc

pub same_or_not : (x q : List ℕ) → (x ≡ q) ⊎ (x ≡ q → ⊥)
same_or_not x q = elim (bytes_eq x q) as (λ b. Decides b (x ≡ q) → (x ≡ q) ⊎ (x ≡ q → ⊥)) [ true ↦ λ d. inl (d.0 refl) | false ↦ λ d. inr (λ e. not_true (d.1 e)) ] (bytes_eq-Decides x q)

one_case : (x : List ℕ) (xs : List (List ℕ)) (q : List ℕ) → (x ≡ q → ⊥) → (Contains xs q → ⊥) → Contains (x ∷ xs) q → ⊥
one_case x xs q f g h = ⊎_elim (λ a. ⊎_elim (λ n. absurd (omega (arith, n.1))) (λ e. f e) (Contains-push_cases [] x q a)) g (Contains-append_cases (x ∷ []) xs q h)

pub in_or_not : (xs : List (List ℕ)) (q : List ℕ) → Contains xs q ⊎ (Contains xs q → ⊥)
in_or_not [] q = inr (λ n. absurd (omega (arith, n.1)))
in_or_not (x ∷ xs) q =
    ⊎_elim
    (λ e. inl (Contains-append_left (x ∷ []) xs q (subst (Contains (x ∷ [])) e (Contains-push [] x))))
    (λ f. ⊎_elim (λ h. inl (Contains-append_right (x ∷ []) xs q h)) (λ g. inr (one_case x xs q f g)) (in_or_not xs q))
    (same_or_not x q)
