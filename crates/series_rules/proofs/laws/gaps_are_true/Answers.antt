use Rattle.series_rules.proofs.GapLaw.{gaps_are_true}
use Rattle.series_rules.proofs.laws.gaps_are_true.Goals as goal

pub returns : goal.returns
returns c = gaps_are_true
