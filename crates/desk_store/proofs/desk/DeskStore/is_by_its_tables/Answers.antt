use Rattle.desk_rows.proofs.ComesTo.{come_rows, rows_come}
use Rattle.desk_store.proofs.desk.DeskStore.is_by_its_tables.Goals as goal

pub returns-clause-rows : goal.returns-clause-rows
returns-clause-rows g c = λ left L. (come_rows left L, rows_come left L)

pub returns-clause-durable : goal.returns-clause-durable
returns-clause-durable g c = λ up L keeps left may. rows_come left L (c.leaves_its_requests.ensures up L keeps left may)
