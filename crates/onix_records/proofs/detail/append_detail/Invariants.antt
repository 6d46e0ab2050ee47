use Rattle.std.proofs.Common.{◌≡◌, ◌++◌, ◌∷◌, length, map, take}
use Rattle.onix_records.specs.Detail.{detail_record}
use Rattle.onix_records.specs.Price.{price_record}
use Rattle.onix_records.proofs.detail.append_detail.Given as goal

abbrev pub invariant-loop-price : goal.invariant-loop-price
invariant-loop-price l = (l.count ≡ length l.fn.records) × (l.records ≡ l.fn.records ++ (detail_record l.detail ∷ map price_record (take l.price-index l.price-items)))
