use Rattle.price_rules.proofs.Tests.{day_le_is}
use Rattle.price_rules.proofs.current.has_begun.Goals as goal

pub returns-in-Some : goal.returns-in-Some
returns-in-Some c = rw c.in-Some.is (day_le_is c.in-Some.first c.args.day c.le.result c.le.ensures)
