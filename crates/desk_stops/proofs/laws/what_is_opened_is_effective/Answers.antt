use Rattle.desk_stops.proofs.RunLemmas.{what_is_opened_is_effective}
use Rattle.desk_stops.proofs.laws.what_is_opened_is_effective.Goals as goal

pub returns : goal.returns
returns g c rules = what_is_opened_is_effective _ rules _
