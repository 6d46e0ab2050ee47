use Rattle.sqlite.specs.Files.{file_state}
use Rattle.program_databases.proofs.ViewLemmas.{left_closed, left_unclosed}
use Rattle.program_databases.proofs.stored_desks.StoredDesksKeepsDesksDeskStoreFileStoreFile.close_files.Goals as goal

pub returns-in-Ok-clause-ok : goal.returns-in-Ok-clause-ok
returns-in-Ok-clause-ok g c = left_closed g.O.File.Disk c.args.desk.tables.connection c.in-Ok.files (λ clean. (c.in-Ok.ensures.copied clean, c.in-Ok.ensures.holds clean))

pub returns-in-Ok-clause-alone : goal.returns-in-Ok-clause-alone
returns-in-Ok-clause-alone g c = λ clean. let copied = c.in-Ok.ensures.copied clean in ((file_state c.args.desk.tables.connection).committed.trees, (copied.seen, copied.left))

pub returns-in-Err-clause-err : goal.returns-in-Err-clause-err
returns-in-Err-clause-err g c = left_unclosed g.O.File.Disk c.args.desk.tables.connection c.in-Err.fault.1 c.in-Err.ensures.left
