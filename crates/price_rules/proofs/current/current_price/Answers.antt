use Rattle.price_rules.proofs.CurrentPrice.{current_exact}
use Rattle.price_rules.proofs.current.current_price.Goals as goal

pub returns-clause-value : goal.returns-clause-value
returns-clause-value c = (current_exact c.args.offer.now c.args.query.now _).0 c.current_by_scan.ensures
