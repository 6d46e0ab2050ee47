use Rattle.std.proofs.Common.{◌≡◌, ◌++◌, ◌∷◌, length, take}
use Rattle.std.specs.List.{flat_map}
use Rattle.onix_records.specs.Detail.{detail_records}
use Rattle.onix_records.specs.Supply.{supply_record}
use Rattle.onix_records.proofs.supply.append_supply.Given as goal

abbrev pub invariant-loop-detail : goal.invariant-loop-detail
invariant-loop-detail l = (l.count ≡ length l.fn.records) × (l.records ≡ l.fn.records ++ (supply_record l.supply ∷ flat_map detail_records (take l.detail-index l.detail-items)))
