use Rattle.price_rules.proofs.breaks.put_end.Goals as goal

pub returns-in-Some-next : goal.returns-in-Some-next
returns-in-Some-next c = rw (c.in-Some.is, ← c.in-Some-next.ensures.value) c.put_within.ensures
