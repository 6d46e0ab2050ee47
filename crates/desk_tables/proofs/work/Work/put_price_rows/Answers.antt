use Rattle.std.proofs.Common.{rules}
use Rattle.desk_tables.proofs.Addings.{adds_refused, adds_unasked}
use Rattle.desk_tables.proofs.work.Work.put_price_rows.Goals as goal

pub returns-then-self : goal.returns-then-self
returns-then-self g c = adds_refused c.args.self.now (search rules)

pub returns-in-Err : goal.returns-in-Err
returns-in-Err g c = adds_unasked c.args.self.now (search rules)

pub returns-in-Ok : goal.returns-in-Ok
returns-in-Ok g c = c.insert_values.ensures c.args.rows.now c.price_values-values.ensures
