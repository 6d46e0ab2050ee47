-- A plan carried out: room for the new references, then each change.
use Rattle.std.proofs.Common.{◌≡◌, ◌+◌, ◌<◌, ◌≤◌, ℕ, List, Option, Some, None, Bool, Bor, cond, true, false, ⊎_elim, IsSome, length, get_or, take, arith, sym, refl, ap, subst, ◌∙◌}
use Rattle.std.specs.FinMap as fin
use Rattle.std.specs.FinMap.{get-remove}
use Rattle.std.specs.Ordering.{nat_cmp, eq_by_cmp}
use Rattle.std.specs.Cmp.Lexicographic.{slice_cmp}
use Rattle.std.specs.List.{All, Contains}
use Rattle.std.proofs.lemmas.Cmp.{nat_list_cmp_total}
use Rattle.std.proofs.lemmas.List.{get_or-map, length-map, take_all}
use Rattle.std.proofs.lemmas.List.Elements.{All-contains, All-more, All-weaker}
use Rattle.catalogue_rules.specs.Records.{ByReference}
use Rattle.catalogue_rules.specs.Plans.{Changes, IsPlan, IsReady, all_bytes, entry_now, str_bytes}
use Rattle.catalogue_rules.specs.declared.entry.Entry.{Entry}
use Rattle.catalogue_rules.proofs.Lookups.{ChangesAt, changed_here, changed_there, equal_maps, in_or_not, same_key, still_has}

not_some : IsSome {T = Option Entry} None → ⊥
not_some h = cc

at_test : (was : Option Entry) (before : Option (Option Entry)) (w : Option Entry) (b : Bool) → (b ≡ true → before ≡ Some w) → entry_now (cond b w was) (cond b None before) ≡ entry_now was before
at_test was before w true f = ap (entry_now was) (sym (f refl))
at_test was before w false f = refl

-- after a change at k the changes that are left lead to the same
pub applied_more : (was now : ByReference) (before rest : Changes) (k : List ℕ) (w : Option Entry)
    → ChangesAt was now k w → fin.get before k ≡ Some w → rest ≡ fin.remove before k
    → (q : List ℕ) → entry_now (fin.get now q) (fin.get rest q) ≡ entry_now (fin.get was q) (fin.get before q)
applied_more was now before rest k w u e r q =
    ap (λ n. entry_now (fin.get now q) (fin.get n q)) r
    ∙ ap (λ o. entry_now (fin.get now q) o) (get-remove nat_list_cmp_total before k q)
    ∙ ap (λ o. entry_now o (cond (eq_by_cmp (slice_cmp nat_cmp) q k) None (fin.get before q))) (u q)
    ∙ at_test (fin.get was q) (fin.get before q) w (eq_by_cmp (slice_cmp nat_cmp) q k) (λ t. ap (fin.get before) (same_key q k t) ∙ e)

ready_at : (was : Option Entry) (before : Option (Option Entry)) (w : Option Entry) (b : Bool) → IsReady was before → IsReady (cond b w was) (cond b None before)
ready_at was before w true h = tt
ready_at was before w false h = h

-- and each reference that is still to have an entry has its place
pub ready_more : (was now : ByReference) (before rest : Changes) (k : List ℕ) (w : Option Entry)
    → ChangesAt was now k w → rest ≡ fin.remove before k
    → ((q : List ℕ) → IsReady (fin.get was q) (fin.get before q)) → (q : List ℕ) → IsReady (fin.get now q) (fin.get rest q)
ready_more was now before rest k w u r h q =
    let e : fin.get rest q ≡ cond (eq_by_cmp (slice_cmp nat_cmp) q k) None (fin.get before q) = ap (λ n. fin.get n q) r ∙ get-remove nat_list_cmp_total before k q in
    subst (λ o. IsReady o (fin.get rest q)) (sym (u q)) (subst (λ o. IsReady (cond (eq_by_cmp (slice_cmp nat_cmp) q k) w (fin.get was q)) o) (sym e) (ready_at (fin.get was q) (fin.get before q) w (eq_by_cmp (slice_cmp nat_cmp) q k) (h q)))

-- with no change left all is done
pub all_applied : (was : Option Entry) (o : Option (Option Entry)) → o ≡ None → entry_now was o ≡ was
all_applied was o e = ap (entry_now was) e

-- ---- room for the new references

-- a catalogue with a change at the i-th of these references
module _ (references : List (Bor (List ℕ))) (i : ℕ) (d : Bor (List ℕ)) (old was now : ByReference) (w : Option Entry)
    (within : i < length references) (u : ChangesAt was now (get_or references i d).now w) where
  abbrev key : List ℕ
  key = (get_or references i d).now

  within_bytes : i < length (all_bytes references)
  within_bytes = let l = length-map references str_bytes in omega (arith, l, within)

  key_at : get_or (all_bytes references) i key ≡ key
  key_at = get_or-map str_bytes references i d key within

  -- has at any other reference what it had
  pub others_stay : ((q : List ℕ) → (Contains (all_bytes references) q → ⊥) → fin.get was q ≡ fin.get old q)
      → (q : List ℕ) → (Contains (all_bytes references) q → ⊥) → fin.get now q ≡ fin.get old q
  others_stay h q f =
      changed_there was now key q w u (λ e. f (subst (Contains (all_bytes references)) (sym e) (i, within_bytes, key_at))) ∙ h q f

  -- and has what P holds of at one more of them
  pub one_more : (P : Option Entry → Type 0) → P w → All (λ k. P (fin.get was k)) (take i (all_bytes references)) → All (λ k. P (fin.get now k)) (take (i + 1) (all_bytes references))
  one_more P here before =
      All-more (λ k. P (fin.get now k)) (all_bytes references) i key within_bytes
      (All-weaker (λ k. P (fin.get was k)) (λ k. P (fin.get now k)) (λ k h. still_has P was now key k w u here h) (take i (all_bytes references)) before)
      (subst (λ k. P (fin.get now k)) (sym key_at) (subst P (sym (changed_here was now key w u)) here))

-- so many are all
pub all_taken : (references : List (Bor (List ℕ))) (i : ℕ) (P : List ℕ → Type 0) → length references ≤ i → All P (take i (all_bytes references)) → All P (all_bytes references)
all_taken references i P past h =
    let l = length-map references str_bytes in
    subst (All P) (take_all i (all_bytes references) (omega (arith, l, past))) h

-- a catalogue that lacks the new references again is the old one
pub undone : (old mid new : ByReference) (new_references : List (List ℕ))
    → All (λ k. fin.get old k ≡ None) new_references
    → ((q : List ℕ) → (Contains new_references q → ⊥) → fin.get mid q ≡ fin.get old q)
    → ((q : List ℕ) → (Contains new_references q → ⊥) → fin.get new q ≡ fin.get mid q)
    → All (λ k. fin.get new k ≡ None) new_references → new ≡ old
undone old mid new new_references absent first second gone =
    equal_maps new old
    (λ q. ⊎_elim
    (λ h. All-contains (λ k. fin.get new k ≡ None) new_references q gone h ∙ sym (All-contains (λ k. fin.get old k ≡ None) new_references q absent h))
    (λ f. second q f ∙ first q f)
    (in_or_not new_references q))

entry_now-named : (was other : Option Entry) (o : Option (Option Entry)) → IsSome o → entry_now was o ≡ entry_now other o
entry_now-named was other None h = absurd (not_some h)
entry_now-named was other (Some now) h = refl

-- where the new references have places, the changes give what the plan says
pub carried_out : (base : ByReference) (draft : Changes) (new_references : List (List ℕ)) (m room new : ByReference) → IsPlan base draft new_references m
    → ((q : List ℕ) → (Contains new_references q → ⊥) → fin.get room q ≡ fin.get base q)
    → ((q : List ℕ) → fin.get new q ≡ entry_now (fin.get room q) (fin.get draft q)) → new ≡ m
carried_out base draft new_references m room new plan others applied =
    equal_maps new m
    (λ q. applied q
    ∙ ⊎_elim
    (λ h. entry_now-named (fin.get room q) (fin.get base q) (fin.get draft q) ((plan.lacks q).0 h).0)
    (λ f. ap (λ was. entry_now was (fin.get draft q)) (others q f))
    (in_or_not new_references q)
    ∙ plan.gives q)
