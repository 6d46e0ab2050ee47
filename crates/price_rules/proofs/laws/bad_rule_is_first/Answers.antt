use Rattle.price_rules.proofs.BadItems.{bad_rule_first}
use Rattle.price_rules.proofs.laws.bad_rule_is_first.Goals as goal

pub returns : goal.returns
returns c = bad_rule_first
