use Rattle.std.proofs.Common.{Some, None, refl, subst, ◌∙◌}
use Rattle.std.proofs.lemmas.List.{take_all}
use Rattle.price_rules.specs.Order.{IsBest}
use Rattle.price_rules.specs.Price.{Holds, Outranks}
use Rattle.price_rules.proofs.Best.{best_none, best_turn, best_more}
use Rattle.price_rules.proofs.CurrentPrice.{outranks_order}
use Rattle.price_rules.proofs.current.current_by_scan.Goals as goal

pub loop-price-init : goal.loop-price-init
loop-price-init c = best_none (Holds c.args.offer.now.market c.args.query.now) Outranks

pub loop-price-preserved : goal.loop-price-preserved
loop-price-preserved c =
    let P = Holds c.args.offer.now.market c.args.query.now in
    best_more P Outranks _ _ c.price-item.result _ c.loop-price-test.true c.price-item.is
    (best_turn P Outranks outranks_order _ c.price-item.result _ _ c.better-best.ensures c.loop-price.invariant)

pub returns-in-Some : goal.returns-in-Some
returns-in-Some c =
    let best = c.in-Some.price.now in
    let all = take_all c.loop-price.price-index c.as_slice-price-items.result.now c.loop-price-test.false ∙ c.as_slice-price-items.ensures in
    (best, refl, subst (λ ps. IsBest (Holds c.args.offer.now.market c.args.query.now) Outranks ps (Some best)) all (rw c.in-Some.is at c.loop-price.invariant))

pub returns-in-None : goal.returns-in-None
returns-in-None c =
    let all = take_all c.loop-price.price-index c.as_slice-price-items.result.now c.loop-price-test.false ∙ c.as_slice-price-items.ensures in
    subst (λ ps. IsBest (Holds c.args.offer.now.market c.args.query.now) Outranks ps None) all (rw c.in-None.is at c.loop-price.invariant)
