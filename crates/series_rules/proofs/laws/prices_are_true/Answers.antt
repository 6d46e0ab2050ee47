use Rattle.series_rules.proofs.PriceLaws.{prices_are_true}
use Rattle.series_rules.proofs.laws.prices_are_true.Goals as goal

pub returns : goal.returns
returns c = prices_are_true c.current_is_exact.ensures
