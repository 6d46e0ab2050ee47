use Rattle.std.proofs.Common.{◌∙◌, refl}
use Rattle.std.proofs.KnownBytes.{Appends-nil}
use Rattle.std.specs.Io.KnownBytes.{Appends}
use Rattle.series_rules.specs.Steps.{Asked}
use Rattle.desk_batch.proofs.TalkLemmas.{runs_of, unread_runs}
use Rattle.program_commands.proofs.batch.answer_batch.Goals as goal

pub returns-in-Ok-clause-ran : goal.returns-in-Ok-clause-ran
returns-in-Ok-clause-ran g c =
    let read = c.in-Ok.ensures.text in
    let asked = Asked g.D.Desk.seen c.args.precedence.now c.args.desk.now c.answer_text.new.desk in
    let written = Appends (g.W.Write.contents c.args.writer.now) (g.W.Write.contents c.answer_text.new.writer) in
    (read.0, read.1, runs_of asked written c.as_slice.result.now read.0 c.answer_text.result (c.as_slice.ensures.value ∙ read.2) c.answer_text.ensures)

pub returns-in-Err-clause-ran : goal.returns-in-Err-clause-ran
returns-in-Err-clause-ran g c =
    let read = c.in-Err.ensures.text in
    let asked = Asked g.D.Desk.seen c.args.precedence.now c.args.desk.now c.args.desk.now in
    let written = Appends (g.W.Write.contents c.args.writer.now) (g.W.Write.contents c.args.writer.now) in
    (read.0, read.1, unread_runs asked written read.0 c.in-Err.fault read.2 refl (Appends-nil (g.W.Write.contents c.args.writer.now)))
