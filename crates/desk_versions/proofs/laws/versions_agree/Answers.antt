use Rattle.desk_versions.proofs.NoMinimums.{versions_agree}
use Rattle.desk_versions.proofs.laws.versions_agree.Goals as goal

pub returns : goal.returns
returns c = versions_agree
