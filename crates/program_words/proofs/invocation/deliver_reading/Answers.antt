use Rattle.std.proofs.Common.{codes, refl}
use Rattle.program_words.specs.Words.{words_in}
use Rattle.program_words.proofs.invocation.deliver_reading.Goals as goal

pub returns-in-Ok : goal.returns-in-Ok
returns-in-Ok c = c.task_reading.ensures (codes "deliver") (words_in c.args.words.now) (refl, c.in-Ok.ensures)
