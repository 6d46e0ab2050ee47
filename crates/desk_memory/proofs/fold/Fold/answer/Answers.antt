use Rattle.std.proofs.Common.{sym}
use Rattle.desk_memory.proofs.Folding.{applied_answer}
use Rattle.desk_memory.proofs.fold.Fold.answer.Goals as goal

pub returns-in-Some : goal.returns-in-Some
returns-in-Some c = λ hs is. applied_answer hs c.args.self.now c.args.series c.args.from c.args.number c.in-Some.effect.now is c.requires (sym c.in-Some.ensures)
