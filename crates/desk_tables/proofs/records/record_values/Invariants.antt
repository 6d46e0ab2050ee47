use Rattle.std.proofs.Common.{◌≡◌, take}
use Rattle.std.specs.List.{flat_map}
use Rattle.sqlite.specs.Values.{bound}
use Rattle.desk_tables.specs.RecordRows.{record_columns}
use Rattle.desk_tables.proofs.records.record_values.Given as goal

abbrev pub invariant-loop-row : goal.invariant-loop-row
invariant-loop-row l = bound l.values.items ≡ flat_map record_columns (take l.row-index l.rows)
