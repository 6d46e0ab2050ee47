use Rattle.std.specs.Io.KnownBytes.{Appends}
use Rattle.desk_memory.specs.contracts.desk.MemoryDeskDesk.TheImpl.{ghosts}
use Rattle.series_rules.proofs.StepLemmas.{traces_lead}
use Rattle.series_rules.specs.Steps.{Asked, Leads}
use Rattle.program_run.proofs.EndLemmas.{both_unless_serving, task_as}
use Rattle.program_run.proofs.program.run_in_memory.Goals as goal

pub returns-clause-entrances : goal.returns-clause-entrances
returns-clause-entrances g c = both_unless_serving c.args.task.now _ _ _ c.bind_port.ensures c.run_task-status.ensures.entrances

pub returns-clause-end : goal.returns-clause-end
returns-clause-end g c =
    let rules = c.args.precedence.now in
    let new = c.new-desk.result in
    let last = c.run_task-status.new.desk in
    let written = Appends (g.W.Write.contents c.args.streams.now.output) (g.W.Write.contents c.run_task-status.new.streams.output) in (
      new,
      last,
      c.new-desk.ensures,
      tt,
      task_as (Asked ghosts.seen rules new last) (λ steps. Leads rules steps (ghosts.seen new) (ghosts.seen last)) written
          (λ steps trace. traces_lead ghosts.seen rules steps new last trace) c.args.task.now (g.F.NamedFiles.holds c.args.files.now) (g.R.Read.remaining c.args.streams.now.input) (g.R.Read.remaining c.run_task-status.new.streams.input) c.run_task-status.result c.run_task-status.ensures.end,
    )
