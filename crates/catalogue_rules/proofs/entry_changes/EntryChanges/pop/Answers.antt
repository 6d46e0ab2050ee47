use Rattle.std.proofs.Common.{◌≡◌, ◌<◌, ⊎_elim, true, false, ℕ, length, sym, ap, subst, arith, ◌∙◌}
use Rattle.std.specs.FinMap as map
use Rattle.std.proofs.lemmas.Bool.{cases_lt}
use Rattle.catalogue_rules.specs.Plans.{str_bytes}
use Rattle.catalogue_rules.proofs.Lookups.{get-map_by, remove-map_by, none_from_empty, fewer_after}
use Rattle.catalogue_rules.proofs.entry_changes.EntryChanges.pop.Goals as goal

no_more : (n : ℕ) → (0 < n → false ≡ true) → n ≡ 0
no_more n f = ⊎_elim (λ lt. let wrong = f lt in cc) (λ ge. omega arith) (cases_lt 0 n)

pub returns-in_default-clause-none : goal.returns-in_default-clause-none
returns-in_default-clause-none c =
    λ q. ap (λ m. map.get m q) (sym c.self.view_is) ∙ none_from_empty str_bytes c.self.inside.changes.entries q (no_more (length c.self.inside.changes.entries) c.in_default.ensures.variant.1)

pub returns : goal.returns
returns c =
    let key = c.in-Some.reference.now in
    let found = ap (λ m. map.get m key) (sym c.self.view_is) ∙ get-map_by str_bytes c.self.inside.changes.entries key ∙ c.in-Some.ensures.value in
    let left = remove-map_by str_bytes key c.self.inside.changes c.pop_first.new.self c.in-Some.ensures.updates ∙ ap (λ m. map.remove m key) c.self.view_is in
    record {
      none = tt;
      some = found;
      rest = left;
      fewer = subst (λ m. map.len m < map.len c.args.self.now) (sym left) (fewer_after c.args.self.now key c.in-Some.change found);
    }
