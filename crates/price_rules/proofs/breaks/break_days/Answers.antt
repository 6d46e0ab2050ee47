use Rattle.std.proofs.Common.{◌≡◌, ℤ, ◌<ℤ◌, ◌∷◌, length, true, refl, subst, sym, ap, arith, ◌∙◌}
use Rattle.std.specs.List.{Contains, flat_map}
use Rattle.std.proofs.lemmas.List.Filters.{dedup_is}
use Rattle.std.proofs.lemmas.List.Kept.{Contains-dedup, Contains-from_dedup, IsStrictlySortedBy-dedup}
use Rattle.std.proofs.lemmas.List.Sorted.{Contains-permutation, IsPermutation-sym}
use Rattle.std.proofs.lemmas.Map.Keys.{Less-from_sorted}
use Rattle.std.proofs.lemmas.Cmp.{int_cmp_total, eq_by_cmp_equiv}
use Rattle.std.proofs.lemmas.Int.{ints}
use Rattle.std.specs.Ordering.{int_eq, int_cmp, MatchOrdering}
use Rattle.std.specs.Cmp.{int_ranks}
use Rattle.std.specs.List.Sorted.{IsStrictlySortedBy}
use Rattle.std.specs.declared.cmp.Ordering.TheVariants.{Less}
use Rattle.price_rules.specs.Breaks.{breaks_of}
use Rattle.price_rules.proofs.BreakDays.{each_of, few_breaks, steady_of}
use Rattle.price_rules.proofs.breaks.break_days.Goals as goal

gathered : (c : goal.After-dedup) → c.in-Ok.days.items ≡ c.args.from ∷ flat_map (breaks_of c.args.from c.args.to) c.args.offer.now.prices
gathered c = c.in-Ok.ensures ∙ ap (λ ps. c.args.from ∷ flat_map (breaks_of c.args.from c.args.to) ps) c.as_slice.ensures

same_day : (x y : ℤ) → int_eq x y ≡ true → x ≡ y
same_day x y e = grind (arith, ints)

less_of : (x y : ℤ) → int_cmp x y ≡ Less → x <ℤ y
less_of x y e = subst (λ r. MatchOrdering r (x <ℤ y) (x ≡ y) (y <ℤ x)) e (int_ranks x y)

pub returns-clause-days : goal.returns-clause-days
returns-clause-days c =
    let is = dedup_is int_eq c.sort_unstable.new.self.items c.dedup.new.self.items c.dedup.ensures.filtered in
    let moved = c.sort_unstable.ensures.permutation in
    let rises = subst (IsStrictlySortedBy int_cmp) (sym is) (IsStrictlySortedBy-dedup int_cmp_total (λ x y. refl) _ c.sort_unstable.ensures.sorted) in
    let equal = eq_by_cmp_equiv int_cmp_total in
    record {
      ascending = λ i j d l k. less_of _ _ (Less-from_sorted int_cmp c.dedup.new.self.items i j d rises l k);
      each = each_of c.args.from c.args.to c.args.offer.now.prices c.dedup.new.self.items
          (λ d. (
            λ h. subst (λ xs. Contains xs d) (gathered c) (Contains-permutation _ _ d (IsPermutation-sym _ _ moved) (Contains-from_dedup int_eq _ d (subst (λ xs. Contains xs d) is h))),
            λ h. subst (λ xs. Contains xs d) (sym is) (Contains-dedup equal same_day _ d (Contains-permutation _ _ d moved (subst (λ xs. Contains xs d) (sym (gathered c)) h))),
          ));
    }

pub returns-clause-few : goal.returns-clause-few
returns-clause-few c =
    let a = ap length (gathered c) in
    let b = few_breaks c.args.from c.args.to c.args.offer.now.prices in
    let d = c.dedup.ensures.bound in
    let e = c.sort_unstable.ensures.len in
    omega arith

pub returns-clause-steady : goal.returns-clause-steady
returns-clause-steady c = steady_of c.args.offer.now c.args.from c.args.to c.dedup.new.self.items (returns-clause-days c)

pub returns-in_default-clause-bad_range : goal.returns-in_default-clause-bad_range
returns-in_default-clause-bad_range c = (λ e. absurd (cc e), λ bad. let wrong = c.if-is_bad_range.ensures.meaning.1 bad in absurd (cc))
