use Rattle.series_rules.proofs.LawProofs.{front_is_exact}
use Rattle.series_rules.proofs.laws.front_is_exact.Goals as goal

pub returns : goal.returns
returns c = front_is_exact
