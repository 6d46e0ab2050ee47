use Rattle.std.proofs.Common.{refl}
use Rattle.program_words.proofs.invocation.rules_reading.Goals as goal

pub returns : goal.returns
returns c = λ top none. ((refl, c.file_of-file.ensures, none), refl)
