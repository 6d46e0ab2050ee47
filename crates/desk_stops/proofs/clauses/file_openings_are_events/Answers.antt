use Rattle.desk_stops.proofs.FileLemmas.{file_openings_are_events}
use Rattle.desk_stops.proofs.clauses.file_openings_are_events.Goals as goal

pub returns : goal.returns
returns g c = file_openings_are_events g.D.Disk
