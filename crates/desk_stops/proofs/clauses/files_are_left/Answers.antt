use Rattle.desk_stops.proofs.FileLemmas.{files_are_left}
use Rattle.desk_stops.proofs.clauses.files_are_left.Goals as goal

pub returns : goal.returns
returns g c = files_are_left g.D.Disk
