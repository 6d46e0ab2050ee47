use Rattle.std.proofs.Common.{◌≡◌, Ok, false, refl, subst, true}
use Rattle.std.specs.Io.KnownBytes.{Appends}
use Rattle.onix_terms.specs.SeriesName.{series_name_of}
use Rattle.series_rules.specs.Steps.{Asked}
use Rattle.program_commands.specs.Unknown.{GapsGive}
use Rattle.program_commands.proofs.QuestionLemmas.{question_ended, question_stopped}
use Rattle.program_commands.proofs.gaps.ask_gaps.Goals as goal

pub returns-in-Ok-true-clause-end : goal.returns-in-Ok-true-clause-end
returns-in-Ok-true-clause-end g c =
    let asked = Asked g.D.Desk.seen c.args.precedence.now c.args.desk.now c.ask.new.desk in
    let written = Appends (g.W.Write.contents c.args.streams.now.output) (g.W.Write.contents c.ask.new.writer) in
    let name = series_name_of c.args.name.now in
    let is : c.in-Ok-true.field-0 ≡ true = cc c.in-Ok-true.field-0-test in
    question_ended asked written name true 1 refl (subst (λ b. GapsGive asked written name (Ok b)) is c.in-Ok-true.ensures)

pub returns-in-Ok-false-clause-end : goal.returns-in-Ok-false-clause-end
returns-in-Ok-false-clause-end g c =
    let asked = Asked g.D.Desk.seen c.args.precedence.now c.args.desk.now c.ask.new.desk in
    let written = Appends (g.W.Write.contents c.args.streams.now.output) (g.W.Write.contents c.ask.new.writer) in
    let name = series_name_of c.args.name.now in
    let is : c.in-Ok-false.field-0 ≡ false = cc c.in-Ok-false.field-0-test in
    question_ended asked written name false 0 refl (subst (λ b. GapsGive asked written name (Ok b)) is c.in-Ok-false.ensures)

pub returns-in-Err-clause-end : goal.returns-in-Err-clause-end
returns-in-Err-clause-end g c =
    let asked = Asked g.D.Desk.seen c.args.precedence.now c.args.desk.now c.ask.new.desk in
    let written = Appends (g.W.Write.contents c.args.streams.now.output) (g.W.Write.contents c.ask.new.writer) in
    question_stopped asked written (series_name_of c.args.name.now) c.in-Err.fault c.report.result c.report.ensures c.in-Err.ensures
