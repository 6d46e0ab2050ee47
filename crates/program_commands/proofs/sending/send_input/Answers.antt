use Rattle.std.proofs.Common.{Err, Ok, ap, inr, refl, subst, sym}
use Rattle.std.proofs.KnownBytes.{Appends-nil}
use Rattle.csv_records.specs.Streams.{IsTold}
use Rattle.program_commands.proofs.InputLemmas.{told_text}
use Rattle.program_commands.specs.Sending.{status_of}
use Rattle.program_commands.proofs.sending.send_input.Goals as goal

pub returns-in-Err-clause-end : goal.returns-in-Err-clause-end
returns-in-Err-clause-end g c =
    let told = told_text (g.R.Read.remaining c.args.streams.now.input) in
    (told.0, told.1, Err c.in-Err.fault, inr (refl, Appends-nil (g.W.Write.contents c.args.streams.now.output)), c.report_input.ensures)

pub returns-in-Ok-true-clause-end : goal.returns-in-Ok-true-clause-end
returns-in-Ok-true-clause-end g c =
    let told = subst (IsTold (g.R.Read.remaining c.args.streams.now.input)) (sym c.as_slice-bytes.ensures.value) c.in-Ok.ensures in
    (c.as_slice-bytes.result.now, told, Ok c.in-Ok-true.field-0, c.in-Ok-true.ensures, sym (ap (λ b. status_of (Ok b)) c.in-Ok-true.field-0-test))

pub returns-in-Ok-false-clause-end : goal.returns-in-Ok-false-clause-end
returns-in-Ok-false-clause-end g c =
    let told = subst (IsTold (g.R.Read.remaining c.args.streams.now.input)) (sym c.as_slice-bytes.ensures.value) c.in-Ok.ensures in
    (c.as_slice-bytes.result.now, told, Ok c.in-Ok-false.field-0, c.in-Ok-false.ensures, sym (ap (λ b. status_of (Ok b)) c.in-Ok-false.field-0-test))

pub returns-clause-end : goal.returns-clause-end
returns-clause-end g c =
    let told = subst (IsTold (g.R.Read.remaining c.args.streams.now.input)) (sym c.as_slice-bytes.ensures.value) c.in-Ok.ensures in
    (c.as_slice-bytes.result.now, told, Err c.in-Err-send_batch.unsent.fault, c.in-Err-send_batch.ensures, c.report_unsent.ensures)
