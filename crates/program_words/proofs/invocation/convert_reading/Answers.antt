use Rattle.std.proofs.Common.{refl}
use Rattle.program_words.proofs.invocation.convert_reading.Goals as goal

pub returns-in-Ok : goal.returns-in-Ok
returns-in-Ok c = λ top none. ((refl, c.in-Ok.ensures.ok, none), refl)
