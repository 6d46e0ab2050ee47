use Rattle.std.proofs.Common.{List, map, refl, subst, ℕ}
use Rattle.std.specs.Borrow.{Bor}
use Rattle.std.specs.Io.KnownBytes.{Appends}
use Rattle.series_rules.specs.Steps.{Asked}
use Rattle.program_commands.specs.CommandEnds.{DeliverEnds}
use Rattle.program_run.proofs.task.run_task.Goals as goal

pub returns-in-Batch-clause-entrances : goal.returns-in-Batch-clause-entrances
returns-in-Batch-clause-entrances g c = rw c.in-Batch.is refl

pub returns-in-Deliver-clause-entrances : goal.returns-in-Deliver-clause-entrances
returns-in-Deliver-clause-entrances g c = rw c.in-Deliver.is refl

pub returns-in-Gaps-clause-entrances : goal.returns-in-Gaps-clause-entrances
returns-in-Gaps-clause-entrances g c = rw c.in-Gaps.is refl

pub returns-in-Serve-clause-entrances : goal.returns-in-Serve-clause-entrances
returns-in-Serve-clause-entrances g c = rw c.in-Serve.is tt

pub returns-in-Batch-clause-end : goal.returns-in-Batch-clause-end
returns-in-Batch-clause-end g c = rw c.in-Batch.is (c.answer_input.ensures.end, c.answer_input.ensures.taken)

pub returns-in-Deliver-clause-end : goal.returns-in-Deliver-clause-end
returns-in-Deliver-clause-end g c =
    let asked = Asked g.D.Desk.seen c.args.precedence.now c.args.desk.now c.deliver_files.new.desk in
    let written = Appends (g.W.Write.contents c.args.streams.now.output) (g.W.Write.contents c.deliver_files.new.streams.output) in
    let ended =
    subst (λ names. DeliverEnds asked written (g.F.NamedFiles.holds c.args.files.now) (g.R.Read.remaining c.args.streams.now.input) (map (λ (name : Bor (List ℕ)). name.now) names) c.deliver_files.result)
    c.as_slice.ensures.value c.deliver_files.ensures.end in
    rw c.in-Deliver.is ended

pub returns-in-Gaps-clause-end : goal.returns-in-Gaps-clause-end
returns-in-Gaps-clause-end g c = rw c.in-Gaps.is c.ask_gaps.ensures.end

pub returns-in-Serve-clause-end : goal.returns-in-Serve-clause-end
returns-in-Serve-clause-end g c = rw c.in-Serve.is c.serve_desk.ensures.end
