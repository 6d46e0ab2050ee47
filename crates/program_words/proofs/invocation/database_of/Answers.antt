use Rattle.std.proofs.Common.{subst, sym}
use Rattle.program_words.specs.Asked.{IsDatabase}
use Rattle.program_words.specs.Words.{words_in}
use Rattle.program_words.proofs.invocation.database_of.Goals as goal

pub returns-in_err-name : goal.returns-in_err-name
returns-in_err-name c = subst (IsDatabase (words_in c.args.matches.now)) (sym c.from_residual.ensures) (sym c.in_err-name.ensures)

pub returns : goal.returns
returns c = (sym c.in_ok-name.ensures, c.has_flag-is_existing.ensures)
