use Rattle.std.proofs.Common.{◌≡◌, ◌+◌, length, Some, slice_get, false, true, refl, sym, subst, ◌∙◌}
use Rattle.std.proofs.lemmas.Option.{slice_get_read}
use Rattle.price_rules.specs.Choice.{IsLeast}
use Rattle.price_rules.proofs.Scan.{IsSeen, least_same, least_new, least_old, least_all}
use Rattle.price_rules.proofs.choice.choose_by.Goals as goal
use Rattle.price_rules.proofs.choice.choose_by.Goals.{in-Some+then-undercuts, in-Some+else-undercuts, in_default}

not_both : false ≡ true → ⊥
not_both e = cc

pub loop-offer_index-preserved : goal.loop-offer_index-preserved
loop-offer_index-preserved c =
    let rule = c.args.rule.now in
    let offers = c.args.offers.now in
    let q = c.args.query.now in
    let n = c.loop-offer_index.offer_index in
    let offer = c.index-offers-offer_index.result in
    let old = c.loop-offer_index.best in
    let at : slice_get offers n ≡ Some offer = slice_get_read offers (length offers) n offer refl c.loop-offer_index-test.true c.index-offers-offer_index.is in
    elim c.match-amount_under.branch [
      | in-Some+then-undercuts w ↦ subst (IsLeast (IsSeen rule c.args.number offers q (n + 1))) (sym w.best-is)
          (least_new rule c.args.number offers q n w.in-Some.amount offer old at w.in-Some.ensures.some (w.undercuts.ensures.0 w.if-undercuts.true) c.loop-offer_index.invariant)
      | in-Some+else-undercuts w ↦ subst (IsLeast (IsSeen rule c.args.number offers q (n + 1))) (sym w.best-is)
          (least_old rule c.args.number offers q n w.in-Some.amount offer old at w.in-Some.ensures.some (λ u. not_both (sym w.if-undercuts.false ∙ w.undercuts.ensures.1 u)) c.loop-offer_index.invariant)
      | in_default w ↦ subst (IsLeast (IsSeen rule c.args.number offers q (n + 1))) (sym w.best-is)
          (least_same rule c.args.number offers q n offer old at w.in_default.ensures.none c.loop-offer_index.invariant)
    ]

pub returns : goal.returns
returns c = least_all c.args.rule.now c.args.number c.args.offers.now c.args.query.now c.loop-offer_index.offer_index c.loop-offer_index.best c.loop-offer_index-test.false c.loop-offer_index.invariant
