use Rattle.std.proofs.Common.{refl, rules, sym, ◌∙◌}
use Rattle.std.specs.BTreeMap.{get}
use Rattle.std.specs.Ordering.{nat_cmp}
use Rattle.desk_memory.proofs.Numbers.{stands_there, against_itself}
use Rattle.desk_memory.proofs.series.deliver_at.Goals as goal

pub deliver_new-requires-clause-absent : goal.deliver_new-requires-clause-absent
deliver_new-requires-clause-absent c = sym (search rules)

pub returns-then-is_same-clause-answer : goal.returns-then-is_same-clause-answer
returns-then-is_same-clause-answer c = λ hs is.
    let there = rw c.in-Some-Message.field-0-is at c.in-Some-Message.ensures.value in
    rw (← there, ← c.if-is_same.ensures.value) (c.place.ensures.answer hs is)

pub returns-in_ok-deliver_new-in-None-clause-answer : goal.returns-in_ok-deliver_new-in-None-clause-answer
returns-in_ok-deliver_new-in-None-clause-answer c = λ hs is.
    c.in_ok-deliver_new-in-None.ensures.answer hs is
    ∙ sym (against_itself hs c.args.series c.args.from c.args.number c.args.contents _
    (c.in_ok-deliver_new-in-None.ensures.ok c.args.number ∙ stands_there (get nat_cmp c.args.numbers.now) c.args.number _ (sym c.in-None.ensures.value)))

pub returns-in-Some-Waived-clause-answer : goal.returns-in-Some-Waived-clause-answer
returns-in-Some-Waived-clause-answer c = λ hs is.
    let there = rw c.in-Some-Waived.field-0-is at c.in-Some-Waived.ensures.value in
    rw (← there) refl
