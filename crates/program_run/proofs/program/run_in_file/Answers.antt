use Rattle.std.proofs.Common.{subst}
use Rattle.std.proofs.KnownBytes.{Appends-nil}
use Rattle.std.specs.Io.KnownBytes.{Appends}
use Rattle.series_rules.proofs.StepLemmas.{traces_lead}
use Rattle.program_desks.proofs.SeenLemmas.{leads_as}
use Rattle.program_desks.specs.DeskFiles.{OpensAs}
use Rattle.program_run.proofs.EndLemmas.{both_unless_serving, over_files, task_as, task_between}
use Rattle.program_run.specs.TaskEnds.{TaskLeads}
use Rattle.program_run.specs.OverFiles.{creation_by}
use Rattle.series_rules.specs.Steps.{Asked, Leads}
use Rattle.program_run.proofs.program.run_in_file.Goals as goal

pub returns-in-Ok-clause-entrances : goal.returns-in-Ok-clause-entrances
returns-in-Ok-clause-entrances g c = both_unless_serving c.args.task.now _ _ _ c.bind_port.ensures c.run_task-status.ensures.entrances

pub returns-in-Ok-clause-end : goal.returns-in-Ok-clause-end
returns-in-Ok-clause-end g c =
    let rules = c.args.precedence.now in
    let theirs = g.D.Desk.seen in
    let seen = g.K.KeepsDesks.seen in
    let first = c.in-Ok.desk in
    let last = c.run_task-status.new.desk in
    let written = Appends (g.W.Write.contents c.args.machine.now.streams.output) (g.W.Write.contents c.run_task-status.new.streams.output) in
    let task = c.args.task.now in
    let holds = g.F.NamedFiles.holds c.args.machine.now.files in
    let told = g.R.Read.remaining c.args.machine.now.streams.input in
    let kept = g.R.Read.remaining c.run_task-status.new.streams.input in
    let files = g.K.KeepsDesks.files in
    let name = c.args.db.now.name.now in
    let creation = creation_by c.args.db.now.is_existing in
    over_files files c.args.databases name creation written (TaskLeads rules written task holds told kept) (task_between rules written task holds told kept) (seen first) (seen last) c.run_task-status.result c.close_desk.result.0
    c.close_desk.result.1 (subst (λ by. OpensAs (files.found c.args.databases name by) (seen first)) c.creation_of.ensures c.in-Ok.ensures.ok) c.close_desk.ensures.end
    (task_as (Asked theirs rules first last) (λ steps. Leads rules steps (seen first) (seen last)) written
    (λ steps trace. leads_as g.D.Desk.kind g.K.KeepsDesks.kind theirs seen g.met.K.KeepsDesks.same rules steps first last (traces_lead theirs rules steps first last trace)) task holds told kept c.run_task-status.result c.run_task-status.ensures.end)

pub returns-in-Err-clause-end : goal.returns-in-Err-clause-end
returns-in-Err-clause-end g c = (
  c.report_unopened.ensures,
  Appends-nil (g.W.Write.contents c.args.machine.now.streams.output),
  subst (λ by. g.K.KeepsDesks.files.spared c.args.databases c.args.db.now.name.now by c.in-Err.left) c.creation_of.ensures c.in-Err.ensures.err,
)
