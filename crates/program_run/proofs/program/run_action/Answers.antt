use Rattle.std.proofs.Common.{refl}
use Rattle.std.proofs.KnownBytes.{Appends-nil}
use Rattle.program_run.proofs.program.run_action.Goals.{in-CheckRules, in-CheckTerms, in-CheckTexts, in-Convert, in-InMemory, in-Send}
use Rattle.program_run.proofs.program.run_action.Goals as goal

pub returns-in-InFile-clause-end : goal.returns-in-InFile-clause-end
returns-in-InFile-clause-end g c = rw c.in-InFile.is ((c.run_in_file.ensures.files, c.run_in_file.ensures.desks, c.run_in_file.ensures.entrances, c.run_in_file.ensures.end), tt, tt, tt, tt, tt)

pub returns-in-Listed-clause-end : goal.returns-in-Listed-clause-end
returns-in-Listed-clause-end g c = rw c.in-Listed.is (tt, (refl, refl, refl, c.list_file.ensures.end), tt, tt, tt, tt)

pub returns-in-Migrate-clause-end : goal.returns-in-Migrate-clause-end
returns-in-Migrate-clause-end g c = rw c.in-Migrate.is (tt, tt, (refl, refl, refl, c.migrate_file.ensures.end), tt, tt, tt)

pub returns-clause-end : goal.returns-clause-end
returns-clause-end g c =
    elim c.match-action.branch [
      | in-InMemory w ↦
          let ended = w.run_in_memory-status.ensures.end in
          rw (w.in-InMemory.is, w.status-is, w.machine-is) ((refl, refl, w.run_in_memory-status.ensures.entrances, tt, ended.0, ended.1, ended.2, ended.3, ended.4), tt, tt, tt, tt, tt)
      | in-Send w ↦ rw (w.in-Send.is, w.status-is, w.machine-is) (tt, tt, tt, (refl, refl, tt, w.send_input-status.ensures.end), tt, tt)
      | in-Convert w ↦ rw (w.in-Convert.is, w.status-is, w.machine-is) (tt, tt, tt, tt, (tt, refl, refl, w.convert-status.ensures.end), tt)
      | in-CheckRules w ↦ rw (w.in-CheckRules.is, w.status-is, w.machine-is) (tt, tt, tt, tt, tt, ((refl, refl, refl, tt), w.check_rules-status.ensures.end))
      | in-CheckTerms w ↦ rw (w.in-CheckTerms.is, w.status-is, w.machine-is) (tt, tt, tt, tt, tt, ((refl, refl, refl, tt), w.check_terms-status.ensures.end))
      | in-CheckTexts w ↦ rw (w.in-CheckTexts.is, w.machine-is) (tt, tt, tt, tt, tt, ((refl, refl, refl, tt), Appends-nil (g.W.Write.contents c.args.machine.now.streams.output)))
    ]
