use Rattle.std.proofs.Common.{◌≡◌, ◌++◌, length, take}
use Rattle.std.specs.List.{flat_map}
use Rattle.onix_records.specs.Product.{identifier_fields}
use Rattle.onix_records.proofs.product.push_identifiers.Given as goal

abbrev pub invariant-loop-id : goal.invariant-loop-id
invariant-loop-id l = (l.count ≡ length l.fn.fields) × (l.fields ≡ l.fn.fields ++ flat_map identifier_fields (take l.id-index l.ids))
