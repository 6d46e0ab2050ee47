use Rattle.std.proofs.Common.{◌∷◌, [], ◌∙◌, arith, inr, length-append, sym}
use Rattle.price_rules.proofs.TomlTables.{rules_all, rules_first, rules_more, rules_past, rules_wrong}
use Rattle.price_rules.proofs.toml_rules.read_items.Goals as goal

pub loop-item-init : goal.loop-item-init
loop-item-init c = rw c.new-rules.ensures.items
    (record { number = omega arith; few = omega arith; count = omega arith; rest = rules_first _ })

pub returns-then-number-gt1000-clause-fault : goal.returns-then-number-gt1000-clause-fault
returns-then-number-gt1000-clause-fault c =
    inr (c.loop-item.invariant.rest
    ∙ rules_past c.loop-item.rules.items c.args.items.now c.loop-item.item-index c.loop-item.number c.item-item.result c.loop-item-test.true c.if-number-gt1000.true)

pub returns-in_default-clause-fault : goal.returns-in_default-clause-fault
returns-in_default-clause-fault c =
    inr (c.loop-item.invariant.rest
    ∙ rules_wrong c.loop-item.rules.items c.args.items.now c.loop-item.item-index c.loop-item.number c.item-item.result c.loop-item-test.true c.item-item.is c.if-number-gt1000.false
    (sym c.in_ok-rule.ensures ∙ c.in_default.is))

pub loop-item-preserved : goal.loop-item-preserved
loop-item-preserved c =
    rw c.in_ok-push.ensures.items
    (record {
      number = omega arith;
      few = omega arith;
      count = omega (arith, length-append c.loop-item.rules.items (c.in-Some.rule ∷ []));
      rest =
          c.loop-item.invariant.rest
          ∙ rules_more c.loop-item.rules.items c.args.items.now c.loop-item.item-index c.loop-item.number c.item-item.result c.in-Some.rule c.loop-item-test.true c.item-item.is c.if-number-gt1000.false
          (sym c.in_ok-rule.ensures ∙ c.in-Some.is);
    })

pub returns-clause-rules : goal.returns-clause-rules
returns-clause-rules c =
    c.loop-item.invariant.rest ∙ rules_all c.loop-item.rules.items c.args.items.now c.loop-item.item-index c.loop-item.number c.loop-item-test.false

pub returns-clause-few : goal.returns-clause-few
returns-clause-few c = omega arith
