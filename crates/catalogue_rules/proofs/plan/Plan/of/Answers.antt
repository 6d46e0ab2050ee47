use Rattle.std.proofs.Common.{◌≡◌, ◌+◌, ◌∙◌, ◌++◌, ◌∷◌, [], ap, arith, length-take, subst, sym, take}
use Rattle.std.specs.FinMap as map
use Rattle.std.proofs.lemmas.List.{take_all, take_more}
use Rattle.std.proofs.lemmas.Result.{IfOk-from_err}
use Rattle.catalogue_rules.specs.Records.{ByReference}
use Rattle.catalogue_rules.specs.Effects.{after, change_of, counted, effect_of, no_effect}
use Rattle.catalogue_rules.specs.Plans.{IsPlan, all_bytes, total}
use Rattle.catalogue_rules.proofs.Effects.{after-push, effect_from-push, total-effect_from}
use Rattle.catalogue_rules.proofs.plan.Plan.of.Goals as goal

pub loop-product-init : goal.loop-product-init
loop-product-init c = record { plan = c.new-plan.ensures.plan c.args.catalogue.now; effect = c.new-plan.ensures.effect }

pub add-requires : goal.add-requires
add-requires c =
    let past = take c.loop-product.product-index c.args.products.now in
    omega (arith, ap total c.loop-product.invariant.effect, total-effect_from no_effect c.args.catalogue.now past, length-take c.loop-product.product-index c.args.products.now)

pub loop-product-preserved : goal.loop-product-preserved
loop-product-preserved c =
    let base = c.args.catalogue.now in
    let i = c.loop-product.product-index in
    let p = c.product-item.result in
    let past = take i c.args.products.now in
    let more : take (i + 1) c.args.products.now ≡ past ++ p ∷ [] =
    take_more c.args.products.now i p c.loop-product-test.true ∙ ap (λ x. past ++ x ∷ []) (sym c.product-item.is) in
    record {
      plan = subst (λ (m : ByReference). IsPlan base c.add.new.self.draft (all_bytes c.add.new.self.new_references.items) m) (sym (ap (after base) more ∙ after-push base past p))
          (c.in_ok-add.ensures.plan (after base past) c.loop-product.invariant.plan);
      effect = c.in_ok-add.ensures.effect (after base past) c.loop-product.invariant.plan
          ∙ ap (counted (change_of p.notification) (map.get (after base past) p.reference)) c.loop-product.invariant.effect
          ∙ sym (ap (effect_of base) more ∙ effect_from-push no_effect base past p);
    }

pub returns-in_err-add-clause-plan : goal.returns-in_err-add-clause-plan
returns-in_err-add-clause-plan c = IfOk-from_err c.from_residual.result _ c.from_residual.ensures.0

pub returns-in_err-add-clause-effect : goal.returns-in_err-add-clause-effect
returns-in_err-add-clause-effect c = IfOk-from_err c.from_residual.result _ c.from_residual.ensures.0

pub returns-clause-plan : goal.returns-clause-plan
returns-clause-plan c =
    let base = c.args.catalogue.now in
    let made = c.loop-product.plan in
    let all = take_all c.loop-product.product-index c.args.products.now c.loop-product-test.false in
    subst (λ ps. IsPlan base made.draft (all_bytes made.new_references.items) (after base ps)) all c.loop-product.invariant.plan

pub returns-clause-effect : goal.returns-clause-effect
returns-clause-effect c =
    c.loop-product.invariant.effect
    ∙ ap (effect_of c.args.catalogue.now) (take_all c.loop-product.product-index c.args.products.now c.loop-product-test.false)
