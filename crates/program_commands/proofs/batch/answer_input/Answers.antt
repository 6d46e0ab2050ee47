use Rattle.std.proofs.Common.{◌≡◌, Ok, Err, arith, nat_eq}
use Rattle.std.specs.Prelude.{if◌then◌else◌}
use Rattle.std.proofs.lemmas.Bool.Decides.{nat_tests}
use Rattle.program_commands.proofs.batch.answer_input.Goals as goal

pub returns-in-Ok-clause-end : goal.returns-in-Ok-clause-end
returns-in-Ok-clause-end g c =
    let ran = c.in-Ok.ensures.ran in
    let one : 1 ≡ (if nat_eq c.in-Ok.field-0 0 then 0 else 1) = grind (arith, nat_tests, c.in-Ok.field-0-test) in
    (ran.0, Ok c.in-Ok.field-0, ran.1, ran.2, one)

pub returns-in-Err-clause-end : goal.returns-in-Err-clause-end
returns-in-Err-clause-end g c =
    let ran = c.in-Err.ensures.ran in
    (ran.0, Err c.in-Err.fault, ran.1, ran.2, c.report_input.ensures)
