use Rattle.std.proofs.Common.{◌≡◌, ◌≤◌, ℕ, List, Bor, ap, subst, sym, ◌∙◌}
use Rattle.std.specs.FinMap as map
use Rattle.std.specs.List.{All, Contains}
use Rattle.std.proofs.lemmas.Result.{IfOk-from_err}
use Rattle.onix_records.specs.DetailCount.{detail_count}
use Rattle.onix_records.specs.declared.parts.Product.{Product}
use Rattle.catalogue_rules.specs.Effects.{after}
use Rattle.catalogue_rules.specs.Plans.{all_bytes}
use Rattle.catalogue_rules.specs.Records.{EachHas, HasFewDetails}
use Rattle.catalogue_rules.proofs.Bounds.{few-after, few-changes}
use Rattle.catalogue_rules.proofs.Changes.{carried_out}
use Rattle.catalogue_rules.proofs.catalogue.Catalogue.apply.Goals as goal

pub returns-clause-ok : goal.returns-clause-ok
returns-clause-ok c =
    let base = c.args.self.now in
    let plan = c.in_ok-draft.field-0 in
    let others = subst (λ (new_references : List (Bor (List ℕ))). (q : List ℕ) → (Contains (all_bytes new_references) q → ⊥) → map.get c.make_room.new.self q ≡ map.get base q) c.as_slice.ensures.value c.in_ok-make_room.ensures.others in
    carried_out base plan.draft (all_bytes plan.new_references.items) (after base c.products.result.now) c.make_room.new.self c.apply_draft.new.self c.in_ok-draft.ensures.plan others c.apply_draft.ensures
    ∙ ap (after base) c.products.ensures.products

pub apply_draft-requires-clause-few : goal.apply_draft-requires-clause-few
apply_draft-requires-clause-few c =
    let base = c.args.self.now in
    let plan = c.in_ok-draft.field-0 in
    let products = c.products.result.now in
    let few = subst (λ (ps : List Product). All (λ p. detail_count p.supplies ≤ 19998) ps) (sym c.products.ensures.products) c.products.ensures.few_details in
    few-changes base plan.draft (all_bytes plan.new_references.items) (after base products) c.in_ok-draft.ensures.plan
    (few-after base products few (subst (EachHas HasFewDetails) c.self.view_is c.self.invariant))

pub returns-in_err-draft-clause-ok : goal.returns-in_err-draft-clause-ok
returns-in_err-draft-clause-ok c = IfOk-from_err c.from_residual.result _ c.from_residual.ensures.0

pub returns-in_err-draft-clause-effect : goal.returns-in_err-draft-clause-effect
returns-in_err-draft-clause-effect c = IfOk-from_err c.from_residual.result _ c.from_residual.ensures.0

pub returns-in_err-make_room-clause-ok : goal.returns-in_err-make_room-clause-ok
returns-in_err-make_room-clause-ok c = IfOk-from_err c.from_residual-in_err-make_room.result _ c.from_residual-in_err-make_room.ensures.0

pub returns-in_err-make_room-clause-effect : goal.returns-in_err-make_room-clause-effect
returns-in_err-make_room-clause-effect c = IfOk-from_err c.from_residual-in_err-make_room.result _ c.from_residual-in_err-make_room.ensures.0
