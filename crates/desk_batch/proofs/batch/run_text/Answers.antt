use Rattle.std.proofs.Common.{refl, subst}
use Rattle.std.proofs.KnownBytes.{Appends-nil}
use Rattle.std.specs.Io.KnownBytes.{Appends}
use Rattle.series_rules.specs.Steps.{Asked}
use Rattle.desk_batch.specs.Batch.{BatchGives}
use Rattle.desk_batch.specs.Talks.{Talks}
use Rattle.desk_batch.proofs.TalkLemmas.{batch_ran}
use Rattle.desk_batch.proofs.batch.run_text.Goals as goal

pub returns-in-Ok : goal.returns-in-Ok
returns-in-Ok g c =
    let read = c.in-Ok.ensures in
    let asked = Asked g.D.Desk.seen c.args.precedence.now c.args.desk.now c.run_requests.new.desk in
    let written = Appends (g.W.Write.contents c.args.writer.now) (g.W.Write.contents c.run_requests.new.writer) in
    let result = c.run_requests.result in
    batch_ran asked written c.args.text.now result read.0
    (subst (λ rs. Talks asked written rs (BatchGives result)) read.1 c.run_requests.ensures)

pub returns-in-Err : goal.returns-in-Err
returns-in-Err g c = (c.in-Err.ensures, refl, Appends-nil (g.W.Write.contents c.args.writer.now))
