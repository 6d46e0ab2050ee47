use Rattle.std.proofs.Common.{refl}
use Rattle.program_run.proofs.closing.close_desk.Goals as goal

pub returns-in-Ok-clause-end : goal.returns-in-Ok-clause-end
returns-in-Ok-clause-end g c = (refl, c.in-Ok.ensures.ok, c.in-Ok.ensures.alone)

pub returns-in-Err-clause-end : goal.returns-in-Err-clause-end
returns-in-Err-clause-end g c = (c.report_unclosed-status.ensures, c.in-Err.ensures.err)
