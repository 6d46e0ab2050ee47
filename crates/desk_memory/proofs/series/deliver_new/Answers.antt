use Rattle.std.specs.BTreeMap.{get}
use Rattle.std.specs.Ordering.{nat_cmp}
use Rattle.desk_memory.proofs.Folding.{folded_with, folded_without}
use Rattle.desk_memory.proofs.Numbers.{taken_back}
use Rattle.desk_memory.proofs.series.deliver_new.Goals as goal

pub place-requires-clause-folded : goal.place-requires-clause-folded
place-requires-clause-folded c =
    folded_with (get nat_cmp c.args.numbers.now) (get nat_cmp c.insert.new.self) c.args.from c.args.number _ c.args.fold.now c.requires.absent c.in_ok-insert.ensures.updates.0 c.requires.folded

pub returns-in-Err-clause-folded : goal.returns-in-Err-clause-folded
returns-in-Err-clause-folded c =
    folded_without (get nat_cmp c.insert.new.self) (get nat_cmp c.take_out.new.numbers) c.args.from c.args.number c.place.new.self c.in-Err.ensures.err c.take_out.ensures c.place.ensures.folded

pub returns-in-Err-clause-err : goal.returns-in-Err-clause-err
returns-in-Err-clause-err c =
    taken_back (get nat_cmp c.args.numbers.now) (get nat_cmp c.insert.new.self) (get nat_cmp c.take_out.new.numbers) c.args.number _ c.requires.absent c.in_ok-insert.ensures.updates.0 c.take_out.ensures
