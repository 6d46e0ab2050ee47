use Rattle.desk_stops.proofs.ClauseLemmas.{calls_are_steps}
use Rattle.desk_stops.proofs.clauses.calls_are_steps.Goals as goal

pub returns : goal.returns
returns g c rules = calls_are_steps g.D.Desk.seen rules
