use Rattle.std.proofs.Common.{◌≡◌, ◌++◌, length, take}
use Rattle.std.specs.List.{flat_map}
use Rattle.onix_records.specs.Supply.{supply_records}
use Rattle.onix_records.proofs.supply.append_supplies.Given as goal

abbrev pub invariant-loop-supply : goal.invariant-loop-supply
invariant-loop-supply l = (l.count ≡ length l.fn.records) × (l.records ≡ l.fn.records ++ flat_map supply_records (take l.supply-index l.supplies))
