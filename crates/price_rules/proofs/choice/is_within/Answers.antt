use Rattle.price_rules.proofs.Tests.{number_le_is}
use Rattle.price_rules.proofs.choice.is_within.Goals as goal

pub returns-in-Some : goal.returns-in-Some
returns-in-Some c = rw c.in-Some.is (number_le_is c.args.amount c.in-Some.most c.le.result c.le.ensures)
