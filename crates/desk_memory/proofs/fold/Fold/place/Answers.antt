use Rattle.std.proofs.Common.{◌∙◌, arith}
use Rattle.std.specs.BTreeMap.{get}
use Rattle.std.specs.Ordering.{nat_cmp}
use Rattle.desk_memory.proofs.Folding.{answer_within}
use Rattle.desk_memory.proofs.fold.Fold.place.Goals as goal

pub returns-then-value-self-clause-answer : goal.returns-then-value-self-clause-answer
returns-then-value-self-clause-answer c = λ hs is.
    let folded = c.go_on.ensures.folded in
    let next = folded.2.next in
    c.answer-then-value-self.ensures folded.0 folded.2 ∙ answer_within (get nat_cmp c.args.numbers.now) c.args.from hs folded.0 is folded.1 c.args.series c.args.number c.requires.above (omega arith)
