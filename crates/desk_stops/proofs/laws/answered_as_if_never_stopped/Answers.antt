use Rattle.desk_stops.proofs.RunLemmas.{answered_as_if_never_stopped}
use Rattle.desk_stops.proofs.laws.answered_as_if_never_stopped.Goals as goal

pub returns : goal.returns
returns g c rules = answered_as_if_never_stopped _ rules _
