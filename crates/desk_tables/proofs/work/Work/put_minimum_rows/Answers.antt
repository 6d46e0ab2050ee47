use Rattle.std.proofs.Common.{filter}
use Rattle.desk_tables.specs.RecordChanges.{has_minimum}
use Rattle.desk_tables.proofs.work.Work.put_minimum_rows.Goals as goal

pub returns : goal.returns
returns g c = c.insert_values.ensures (filter has_minimum c.args.rows.now) c.minimum_values-values.ensures
