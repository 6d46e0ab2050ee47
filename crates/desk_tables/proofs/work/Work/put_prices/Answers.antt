use Rattle.std.proofs.Common.{filter, rules}
use Rattle.desk_tables.specs.RecordChanges.{has_minimum, with_minimum_rows, with_price_rows}
use Rattle.desk_tables.proofs.Addings.{adds_stopped, adds_then, behind}
use Rattle.desk_tables.proofs.work.Work.put_prices.Goals as goal

pub returns : goal.returns
returns g c = adds_then c.in_ok-put_price_rows.ensures (behind (with_price_rows c.args.rows.now) c.put_minimum_rows.ensures)

pub returns-in_err-put_price_rows : goal.returns-in_err-put_price_rows
returns-in_err-put_price_rows g c = adds_stopped (search rules) c.in_err-put_price_rows.ensures
