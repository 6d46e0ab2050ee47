use Rattle.std.proofs.Common.{◌≡◌, Some, map, take}
use Rattle.desk_tables.specs.RecordAnswers.{read_priced, AreRising}
use Rattle.desk_tables.proofs.prices.all_prices.Given as goal

abbrev pub invariant-loop-row : goal.invariant-loop-row
invariant-loop-row l = AreRising l.minimums → map (λ r. Some r) l.prices.items ≡ map (read_priced l.minimums) (take l.row-index l.rows.items)
