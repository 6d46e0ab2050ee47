use Rattle.std.proofs.Common.{codes, refl, sym}
use Rattle.program_words.specs.Words.{words_in}
use Rattle.program_words.proofs.invocation.gaps_reading.Goals as goal

pub returns-in-Some : goal.returns-in-Some
returns-in-Some c = c.task_reading.ensures (codes "gaps") (words_in c.args.words.now) (refl, sym c.in-Some.ensures)

pub returns-in-None : goal.returns-in-None
returns-in-None c = c.listing_reading.ensures (codes "gaps") (words_in c.args.words.now) (refl, sym c.in-None.ensures)
