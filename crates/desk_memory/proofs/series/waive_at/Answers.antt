use Rattle.std.proofs.Common.{refl, sym}
use Rattle.std.specs.BTreeMap.{get}
use Rattle.std.specs.Ordering.{nat_cmp}
use Rattle.desk_memory.proofs.Folding.{folded_with}
use Rattle.desk_memory.proofs.Numbers.{stands_still}
use Rattle.desk_memory.proofs.series.waive_at.Goals as goal

pub returns-in-Some-Message-clause-folded : goal.returns-in-Some-Message-clause-folded
returns-in-Some-Message-clause-folded c = λ from fold folded. folded

pub returns-in-Some-Message-clause-ok : goal.returns-in-Some-Message-clause-ok
returns-in-Some-Message-clause-ok c = λ n.
    stands_still (get nat_cmp c.args.numbers.now) c.args.number _ _ (sym c.in-Some-Message.ensures.value) n

pub returns-in-Some-Message-clause-answer : goal.returns-in-Some-Message-clause-answer
returns-in-Some-Message-clause-answer c =
    let there = rw c.in-Some-Message.field-0-is at c.in-Some-Message.ensures.value in
    rw (← there) refl

pub returns-in_ok-insert-in-None-clause-folded : goal.returns-in_ok-insert-in-None-clause-folded
returns-in_ok-insert-in-None-clause-folded c = λ from fold folded.
    folded_with (get nat_cmp c.args.numbers.now) (get nat_cmp c.insert.new.self) from c.args.number _ fold (sym c.in-None.ensures.value) c.in_ok-insert-in-None.ensures.updates.0 folded
