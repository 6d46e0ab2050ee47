use Rattle.price_rules.proofs.CurrentPrice.{current_exact}
use Rattle.price_rules.proofs.laws.current_is_exact.Goals as goal

pub returns : goal.returns
returns c = current_exact
