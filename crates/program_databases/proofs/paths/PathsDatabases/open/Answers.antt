use Rattle.std.proofs.Common.{ℕ, Bool, true, false, List, ap₂, cond}
use Rattle.sqlite_disk.specs.Events.{Event, replay}
use Rattle.sqlite_wal.specs.Recovery.{Image}
use Rattle.program_databases.proofs.PathLemmas.{left_fresh}
use Rattle.program_databases.proofs.paths.PathsDatabases.open.Goals as goal

abbrev image : List ℕ → List ℕ → Image
image log db = record { log = log; db = db }

abbrev seen : List ℕ → List ℕ → Bool → List Event → List ℕ
seen log db is_log history = (replay (cond is_log log db) history).seen

pub returns-in-Ok-clause-settled : goal.returns-in-Ok-clause-settled
returns-in-Ok-clause-settled g c =
    let start = g.S.Start in
    let fresh = c.in-Ok.ensures.fresh in
    let log = c.in-Ok.files.log in
    let db = c.in-Ok.files.db in (
      ap₂ image (ap₂ (seen start.log start.db) fresh.0.0 fresh.0.1) (ap₂ (seen start.log start.db) fresh.1.0 fresh.1.1),
      λ left may. ap₂ image
          (left_fresh start.is_mixing start.log start.db log.is_log true log.calls.log.events log.key fresh.0.0 fresh.0.1 left.log may.0)
          (left_fresh start.is_mixing start.log start.db db.is_log false db.calls.log.events db.key fresh.1.0 fresh.1.1 left.db may.1),
    )
