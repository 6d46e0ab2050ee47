use Rattle.price_rules.proofs.Candidates.{choice_exact}
use Rattle.price_rules.proofs.laws.choice_is_exact.Goals as goal

pub returns : goal.returns
returns c = choice_exact
