-- How a plan grows by one product.
use Rattle.std.proofs.Common.{◌≡◌, ℕ, List, [], ◌∷◌, ◌++◌, Option, Some, None, Bool, cond, true, false, ⊎_elim, IsSome, sym, refl, ap, subst, ◌∙◌, arith}
use Rattle.std.specs.FinMap as fin
use Rattle.std.specs.FinMap.{get-empty, get-insert, get-remove}
use Rattle.std.specs.Ordering.{nat_cmp, eq_by_cmp}
use Rattle.std.specs.Cmp.Lexicographic.{slice_cmp}
use Rattle.std.specs.List.{Contains}
use Rattle.std.proofs.lemmas.Cmp.{nat_list_cmp_total}
use Rattle.std.proofs.lemmas.List.Elements.{Contains-append_left, Contains-push, Contains-push_cases}
use Rattle.catalogue_rules.specs.Records.{ByReference}
use Rattle.catalogue_rules.specs.Effects.{with_entry}
use Rattle.catalogue_rules.specs.Plans.{Changes, IsPlan, entry_now}
use Rattle.catalogue_rules.specs.declared.entry.Entry.{Entry}
use Rattle.catalogue_rules.proofs.Lookups.{ChangesAt, changed_here, changed_there, same_key, same_or_not, still_some}

nothing_in : (q : List ℕ) → Contains [] q → ⊥
nothing_in q n = omega (arith, n.1)

not_some : IsSome {T = Option Entry} None → ⊥
not_some h = cc

-- no change is a plan for what is there
pub no_change : (base : ByReference) → IsPlan base fin.empty [] base
no_change base = record {
  gives = λ q. ap (entry_now (fin.get base q)) (get-empty (slice_cmp nat_cmp) q);
  lacks = λ q. (λ n. absurd (nothing_in q n), λ h. absurd (not_some (subst IsSome (get-empty (slice_cmp nat_cmp) q) h.0)));
}

-- a catalogue with another entry at k, or none
pub changes_at-with_entry : (m : ByReference) (k : List ℕ) (w : Option Entry) → ChangesAt m (with_entry m k w) k w
changes_at-with_entry m k None q = get-remove nat_list_cmp_total m k q
changes_at-with_entry m k (Some e) q = get-insert nat_list_cmp_total m k e q

entry_now-put : (was : Option Entry) (b : Bool) (now : Option Entry) (o : Option (Option Entry)) → entry_now was (cond b (Some now) o) ≡ cond b now (entry_now was o)
entry_now-put was true now o = refl
entry_now-put was false now o = refl

kept : (b : Bool) (was : Option Entry) (w : Option Entry) → (b ≡ true → was ≡ w) → cond b w was ≡ was
kept true was w f = sym (f refl)
kept false was w f = refl

module _ (base m : ByReference) (draft : Changes) (new_references : List (List ℕ)) (plan : IsPlan base draft new_references m) (k : List ℕ) where
  -- what a reference has after the changes
  pub had : (w : Option Entry) → entry_now (fin.get base k) (fin.get draft k) ≡ w → fin.get m k ≡ w
  had w e = sym (plan.gives k) ∙ e

  -- a product that leaves the entry of its reference alone changes nothing
  pub left_alone : IsPlan base draft new_references (with_entry m k (fin.get m k))
  left_alone = record {
    gives = λ q. plan.gives q ∙ sym (changes_at-with_entry m k (fin.get m k) q ∙ kept (eq_by_cmp (slice_cmp nat_cmp) q k) (fin.get m q) (fin.get m k) (λ t. ap (fin.get m) (same_key q k t)));
    lacks = plan.lacks;
  }

  module _ (now : Option Entry) where
    in_draft : ChangesAt draft (fin.insert draft k now) k (Some now)
    in_draft q = get-insert nat_list_cmp_total draft k now q

    gives_more : (q : List ℕ) → entry_now (fin.get base q) (fin.get (fin.insert draft k now) q) ≡ fin.get (with_entry m k now) q
    gives_more q =
        ap (entry_now (fin.get base q)) (in_draft q)
        ∙ entry_now-put (fin.get base q) (eq_by_cmp (slice_cmp nat_cmp) q k) now (fin.get draft q)
        ∙ ap (λ o. cond (eq_by_cmp (slice_cmp nat_cmp) q k) now o) (plan.gives q)
        ∙ sym (changes_at-with_entry m k now q)

    is_named : (q : List ℕ) → (k ≡ q) → IsSome (fin.get (fin.insert draft k now) q)
    is_named q e = subst (λ x. IsSome (fin.get (fin.insert draft k now) x)) e (subst IsSome (sym (changed_here draft (fin.insert draft k now) k (Some now) in_draft)) refl)

    named_before : (q : List ℕ) → (k ≡ q → ⊥) → IsSome (fin.get (fin.insert draft k now) q) → IsSome (fin.get draft q)
    named_before q f h = subst IsSome (changed_there draft (fin.insert draft k now) k q (Some now) in_draft (λ e. f (sym e))) h

    -- a change at a reference that the catalogue and the draft lack
    pub put_new : fin.get base k ≡ None → IsPlan base (fin.insert draft k now) (new_references ++ k ∷ []) (with_entry m k now)
    put_new none = record {
      gives = gives_more;
      lacks = λ q. (
        λ h. ⊎_elim
            (λ before. (still_some draft (fin.insert draft k now) k q now in_draft ((plan.lacks q).0 before).0, ((plan.lacks q).0 before).1))
            (λ e. (is_named q e, subst (λ x. fin.get base x ≡ None) e none))
            (Contains-push_cases new_references k q h),
        λ h. ⊎_elim
            (λ e. subst (Contains (new_references ++ k ∷ [])) e (Contains-push new_references k))
            (λ f. Contains-append_left new_references (k ∷ []) q ((plan.lacks q).1 (named_before q f h.0, h.1)))
            (same_or_not k q),
      );
    }

    in_one : (o : Option (Option Entry)) → (o ≡ None → ⊥) → IsSome o
    in_one None f = absurd (f refl)
    in_one (Some x) f = refl

    -- a change at a reference that one of them has
    pub put_known : ((fin.get base k ≡ None) × (fin.get draft k ≡ None) → ⊥) → IsPlan base (fin.insert draft k now) new_references (with_entry m k now)
    put_known known = record {
      gives = gives_more;
      lacks = λ q. (
        λ h. (still_some draft (fin.insert draft k now) k q now in_draft ((plan.lacks q).0 h).0, ((plan.lacks q).0 h).1),
        λ h. ⊎_elim
            (λ e. subst (Contains new_references) e ((plan.lacks k).1 (
              in_one (fin.get draft k) (λ none. known (ap (fin.get base) e ∙ h.1, none)),
              ap (fin.get base) e ∙ h.1,
            )))
            (λ f. (plan.lacks q).1 (named_before q f h.0, h.1))
            (same_or_not k q),
      );
    }

-- a plan in other words
pub same_plan : (base m : ByReference) (draft other : Changes) (new_references others : List (List ℕ)) → other ≡ draft → others ≡ new_references
    → IsPlan base draft new_references m → IsPlan base other others m
same_plan base m draft other new_references others d f plan = subst (λ ks. IsPlan base other ks m) (sym f) (subst (λ o. IsPlan base o new_references m) (sym d) plan)
