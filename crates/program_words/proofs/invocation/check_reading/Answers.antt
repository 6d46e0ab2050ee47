use Rattle.std.proofs.Common.{refl}
use Rattle.program_words.proofs.invocation.check_reading.Goals as goal

pub returns-in-Ok : goal.returns-in-Ok
returns-in-Ok c = λ top none. ((refl, c.in-Ok.ensures, none), refl)
