use Rattle.std.proofs.Common.{◌≡◌, List, ℕ, sym, ap, subst, ◌∙◌}
use Rattle.std.specs.FinMap as map
use Rattle.std.specs.Option.{option_copied}
use Rattle.std.proofs.lemmas.Result.{IfOk-from_err}
use Rattle.catalogue_rules.specs.Records.{ByReference}
use Rattle.catalogue_rules.specs.Effects.{after_product, with_entry, entry_after, change_of}
use Rattle.catalogue_rules.specs.Plans.{IsPlan, all_bytes, entry_now}
use Rattle.catalogue_rules.specs.declared.change.Change.{Change}
use Rattle.catalogue_rules.specs.declared.plan.Plan.{Plan}
use Rattle.catalogue_rules.proofs.Plans.{left_alone, had}
use Rattle.catalogue_rules.proofs.plan.Plan.add.Goals as goal
use Rattle.catalogue_rules.proofs.plan.Plan.add.Goals.{in-Some+in_ok-put, in_default}

pub returns-clause-plan : goal.returns-clause-plan
returns-clause-plan c = λ m plan.
    let base = c.args.catalogue.now in
    let old = c.args.self.now in
    let p = c.args.product.now in
    let was = option_copied c.entry_of-was.result in
    let key : c.as_str-reference.result.now ≡ p.reference = c.as_str-reference.ensures in
    let found : was ≡ map.get m p.reference =
    sym (had base m old.draft (all_bytes old.new_references.items) plan c.as_str-reference.result.now was (sym c.entry_of-was.ensures)) ∙ ap (map.get m) key in
    let now : entry_now was c.in_ok-now.field-0 ≡ entry_after (change_of p.notification) p (map.get m p.reference) =
    c.in_ok-now.ensures ∙ ap (λ (change : Change). entry_after change p was) c.of-change.ensures ∙ ap (entry_after (change_of p.notification) p) found in
    elim c.match-branch-2.branch [
      | in-Some+in_ok-put w ↦
          let entry : w.in-Some.now ≡ entry_after (change_of p.notification) p (map.get m p.reference) = sym (ap (entry_now was) w.in-Some.is) ∙ now in
          let same : with_entry m c.as_str-reference.result.now w.in-Some.now ≡ after_product m p =
          ap (λ (k : List ℕ). with_entry m k w.in-Some.now) key ∙ ap (with_entry m p.reference) entry in
          subst (λ (s : Plan). IsPlan base s.draft (all_bytes s.new_references.items) (after_product m p)) (sym w.self-is)
          (subst (λ (n : ByReference). IsPlan base w.put.new.self.draft (all_bytes w.put.new.self.new_references.items) n) same (w.in_ok-put.ensures.plan m plan))
      | in_default w ↦
          let entry : map.get m p.reference ≡ entry_after (change_of p.notification) p (map.get m p.reference) =
          sym found ∙ sym (ap (entry_now was) w.in_default.is) ∙ now in
          subst (λ (s : Plan). IsPlan base s.draft (all_bytes s.new_references.items) (after_product m p)) (sym w.self-is)
          (subst (λ (n : ByReference). IsPlan base old.draft (all_bytes old.new_references.items) n) (ap (with_entry m p.reference) entry) (left_alone base m old.draft (all_bytes old.new_references.items) plan p.reference))
    ]

pub returns-in_err-now-clause-plan : goal.returns-in_err-now-clause-plan
returns-in_err-now-clause-plan c = IfOk-from_err c.from_residual.result _ c.from_residual.ensures.0

pub returns-in_err-now-clause-effect : goal.returns-in_err-now-clause-effect
returns-in_err-now-clause-effect c = IfOk-from_err c.from_residual.result _ c.from_residual.ensures.0

pub returns-in_err-put-clause-plan : goal.returns-in_err-put-clause-plan
returns-in_err-put-clause-plan c = IfOk-from_err c.from_residual-in_err-put.result _ c.from_residual-in_err-put.ensures.0

pub returns-in_err-put-clause-effect : goal.returns-in_err-put-clause-effect
returns-in_err-put-clause-effect c = IfOk-from_err c.from_residual-in_err-put.result _ c.from_residual-in_err-put.ensures.0
