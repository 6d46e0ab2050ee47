use Rattle.std.proofs.Common.{◌≡◌, filter, take}
use Rattle.std.specs.List.{flat_map}
use Rattle.sqlite.specs.Values.{bound}
use Rattle.desk_tables.specs.RecordChanges.{has_minimum}
use Rattle.desk_tables.specs.RecordRows.{minimum_columns, minimum_row}
use Rattle.desk_tables.proofs.prices.minimum_values.Given as goal

abbrev pub invariant-loop-row : goal.invariant-loop-row
invariant-loop-row l = bound l.values.items ≡ flat_map (λ r. minimum_columns (minimum_row r)) (filter has_minimum (take l.row-index l.rows))
