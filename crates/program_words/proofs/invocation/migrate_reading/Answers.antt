use Rattle.std.proofs.Common.{refl}
use Rattle.program_words.proofs.invocation.migrate_reading.Goals as goal

pub returns-in-Some : goal.returns-in-Some
returns-in-Some c = λ own none. ((refl, c.in-Some.ensures, none), c.text_in.ensures)
