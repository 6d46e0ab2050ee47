use Rattle.std.proofs.Common.{subst}
use Rattle.std.proofs.KnownBytes.{Appends-nil}
use Rattle.program_desks.specs.DeskFiles.{IsMigrated}
use Rattle.program_run.proofs.migrating.migrate_file.Goals as goal

pub returns-in-Ok-clause-end : goal.returns-in-Ok-clause-end
returns-in-Ok-clause-end g c = (
  c.in-Ok.did,
  subst (λ by. IsMigrated g.K.KeepsDesks.files c.args.databases c.args.db.now.name.now by c.in-Ok.did c.in-Ok.files) c.creation_of.ensures c.in-Ok.ensures.ok,
  c.write_line-status.ensures,
)

pub returns-in-Err-clause-end : goal.returns-in-Err-clause-end
returns-in-Err-clause-end g c = (
  c.report_unopened.ensures,
  Appends-nil (g.W.Write.contents c.args.streams.now.output),
  subst (λ by. g.K.KeepsDesks.files.unmigrated c.args.databases c.args.db.now.name.now by c.in-Err.left) c.creation_of.ensures c.in-Err.ensures.err,
)
