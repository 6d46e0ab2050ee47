use Rattle.std.proofs.Common.{◌≡◌, take}
use Rattle.std.specs.List.{flat_map}
use Rattle.sqlite.specs.Values.{bound}
use Rattle.desk_tables.specs.RecordRows.{offer_columns, offer_row}
use Rattle.desk_tables.proofs.offers.offer_values.Given as goal

abbrev pub invariant-loop-i : goal.invariant-loop-i
invariant-loop-i l = bound l.values.items ≡ flat_map (λ r. offer_columns (offer_row r)) (take l.i l.rows)
