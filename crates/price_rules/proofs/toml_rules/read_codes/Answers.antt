use Rattle.std.proofs.Common.{◌∙◌, sym}
use Rattle.price_rules.proofs.TomlTables.{codes_all, codes_end, codes_first, codes_more}
use Rattle.price_rules.proofs.toml_rules.read_codes.Goals as goal

pub loop-item-init : goal.loop-item-init
loop-item-init c = rw c.new-found.ensures (codes_first _)

pub returns-in_default : goal.returns-in_default
returns-in_default c =
    sym (c.loop-item.invariant
    ∙ codes_end c.loop-item.found c.args.items.now c.loop-item.item-index c.item-item.result c.loop-item-test.true c.item-item.is (sym c.code_of.ensures ∙ c.in_default.is))

pub loop-item-preserved : goal.loop-item-preserved
loop-item-preserved c =
    rw c.in_ok-push.ensures.ok
    (c.loop-item.invariant
    ∙ codes_more c.loop-item.found c.args.items.now c.loop-item.item-index c.item-item.result c.in-Some.code c.loop-item-test.true c.item-item.is (sym c.code_of.ensures ∙ c.in-Some.is))

pub returns : goal.returns
returns c = sym (c.loop-item.invariant ∙ codes_all c.loop-item.found c.args.items.now c.loop-item.item-index c.loop-item-test.false)
