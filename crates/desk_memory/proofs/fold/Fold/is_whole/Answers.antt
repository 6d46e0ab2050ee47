use Rattle.std.proofs.Common.{ap, sym, ◌∙◌}
use Rattle.std.specs.BTreeMap.{get}
use Rattle.std.specs.Ordering.{nat_cmp}
use Rattle.desk_memory.proofs.Folding.{front_folded, number_is}
use Rattle.desk_memory.proofs.fold.Fold.is_whole.Goals as goal

pub returns-in-None-get : goal.returns-in-None-get
returns-in-None-get c = λ hs is whole.
    let f = get nat_cmp c.args.numbers.now in
    front_folded f c.args.from c.args.self.now c.requires (ap f (sym (number_is c.in-Some.next c.args.self.now.next c.in-Some.ensures)) ∙ sym c.in-None-get.ensures.value) hs is
