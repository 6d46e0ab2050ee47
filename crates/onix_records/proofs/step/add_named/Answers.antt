use Rattle.onix_records.proofs.StepsOfRows.{header-steps}
use Rattle.onix_records.proofs.step.add_named.Goals as goal

pub returns-then-eq : goal.returns-then-eq
returns-then-eq c = rw (← c.if-eq.ensures) (header-steps _ c.args.draft.now c.args.before c.args.draft.now)

pub returns-then-eq-2 : goal.returns-then-eq-2
returns-then-eq-2 c = rw (← c.if-eq.ensures, ← c.if-eq-2.ensures) (c.add_read_product.ensures c.args.before)

pub returns-then-eq-3 : goal.returns-then-eq-3
returns-then-eq-3 c = rw (← c.if-eq.ensures, ← c.if-eq-2.ensures, ← c.if-eq-3.ensures) (c.add_read_supply.ensures c.args.before)

pub returns-then-eq-4 : goal.returns-then-eq-4
returns-then-eq-4 c = rw (← c.if-eq.ensures, ← c.if-eq-2.ensures, ← c.if-eq-3.ensures, ← c.if-eq-4.ensures) (c.add_read_detail.ensures c.args.before)

pub returns-then-eq-5 : goal.returns-then-eq-5
returns-then-eq-5 c = rw (← c.if-eq.ensures, ← c.if-eq-2.ensures, ← c.if-eq-3.ensures, ← c.if-eq-4.ensures, ← c.if-eq-5.ensures) (c.add_read_price.ensures c.args.before)

pub returns-then-eq-6 : goal.returns-then-eq-6
returns-then-eq-6 c = rw (← c.if-eq.ensures, ← c.if-eq-2.ensures, ← c.if-eq-3.ensures, ← c.if-eq-4.ensures, ← c.if-eq-5.ensures, ← c.if-eq-6.ensures) c.add_read_end.ensures

pub returns : goal.returns
returns c = rw (← c.if-eq.ensures, ← c.if-eq-2.ensures, ← c.if-eq-3.ensures, ← c.if-eq-4.ensures, ← c.if-eq-5.ensures, ← c.if-eq-6.ensures) (λ r is _ _. cc is)
