use Rattle.series_rules.proofs.PriceLaws.{choice_is_true}
use Rattle.series_rules.proofs.laws.choice_is_true.Goals as goal

pub returns : goal.returns
returns c = choice_is_true c.choice_is_exact.ensures
