use Rattle.series_rules.proofs.AgreementLemmas.{agreements_are_distinct, no_two_clash}
use Rattle.series_rules.proofs.laws.agreements_are_distinct.Goals as goal

pub returns : goal.returns
returns c = record { no_two_clash = no_two_clash; found_alike = agreements_are_distinct }
