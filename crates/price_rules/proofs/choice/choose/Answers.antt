use Rattle.std.proofs.Common.{ℕ, List, length, Some, None, refl, subst, arith}
use Rattle.std.proofs.lemmas.Option.{slice_get_read}
use Rattle.price_rules.specs.Choice.{IsLeast, IsCandidate, IsRuleCandidate}
use Rattle.price_rules.specs.declared.precedence.Rule.{Rule}
use Rattle.price_rules.proofs.Scan.{more_past, choice_found, choice_none}
use Rattle.price_rules.proofs.Candidates.{choice_exact}
use Rattle.price_rules.proofs.choice.choose.Goals as goal

pub returns-in-Some-clause-meaning : goal.returns-in-Some-clause-meaning
returns-in-Some-clause-meaning c =
    let rules = c.rules-rule-items.result.now in
    let offers = c.args.offers.now in
    let q = c.args.query.now in
    let k = c.loop-rule.rule-index in
    let at = slice_get_read rules (length rules) k c.rule-item.result refl c.loop-rule-test.true c.rule-item.is in
    subst (λ (rs : List Rule). IsLeast (IsCandidate rs offers q) (Some c.in-Some.choice)) c.rules-rule-items.ensures.rules
    (choice_found rules offers q k c.rule-item.result c.in-Some.choice at c.loop-rule.invariant.1
    (subst (λ (n : ℕ). IsLeast (IsRuleCandidate c.rule-item.result n offers q) (Some c.in-Some.choice)) c.loop-rule.invariant.0 c.in-Some.ensures))

pub loop-rule-preserved : goal.loop-rule-preserved
loop-rule-preserved c =
    let rules = c.rules-rule-items.result.now in
    let offers = c.args.offers.now in
    let q = c.args.query.now in
    let k = c.loop-rule.rule-index in
    let at = slice_get_read rules (length rules) k c.rule-item.result refl c.loop-rule-test.true c.rule-item.is in (
      omega arith,
      more_past rules offers q k c.rule-item.result at c.loop-rule.invariant.1
          (subst (λ (n : ℕ). IsLeast (IsRuleCandidate c.rule-item.result n offers q) None) c.loop-rule.invariant.0 c.in_default.ensures),
    )

pub returns-clause-meaning : goal.returns-clause-meaning
returns-clause-meaning c =
    subst (λ (rs : List Rule). IsLeast (IsCandidate rs c.args.offers.now c.args.query.now) None) c.rules-rule-items.ensures.rules
    (choice_none c.rules-rule-items.result.now c.args.offers.now c.args.query.now c.loop-rule.rule-index c.loop-rule-test.false c.loop-rule.invariant.1)

pub returns-in-Some-clause-value : goal.returns-in-Some-clause-value
returns-in-Some-clause-value c =
    (choice_exact c.args.precedence.now c.args.offers.now c.args.query.now _).0 (returns-in-Some-clause-meaning c)

pub returns-clause-value : goal.returns-clause-value
returns-clause-value c =
    (choice_exact c.args.precedence.now c.args.offers.now c.args.query.now _).0 (returns-clause-meaning c)
