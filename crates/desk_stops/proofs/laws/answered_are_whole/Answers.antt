use Rattle.desk_stops.proofs.WholeLists.{answered_are_whole}
use Rattle.desk_stops.proofs.laws.answered_are_whole.Goals as goal

pub returns : goal.returns
returns c = answered_are_whole
