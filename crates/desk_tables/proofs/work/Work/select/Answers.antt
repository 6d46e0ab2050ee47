use Rattle.std.proofs.Common.{rules}
use Rattle.desk_tables.proofs.Asked.{selects_by, selects_err}
use Rattle.desk_tables.proofs.work.Work.select.Goals as goal

pub returns : goal.returns
returns g c = selects_by g.A.FromRows.are_rows c.or_spend.ensures c.in_ok-rows.ensures c.from_rows.ensures

pub returns-in_err-rows : goal.returns-in_err-rows
returns-in_err-rows g c = selects_err g.A.FromRows.are_rows (search rules) c.in_err-rows.ensures
