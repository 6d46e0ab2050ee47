use Rattle.std.proofs.Common.{◌≡◌, take}
use Rattle.std.specs.List.{flat_map}
use Rattle.onix_records.specs.Product.{product_records}
use Rattle.onix_message.proofs.contents.records_of_contents.Given as goal

abbrev pub invariant-loop-product : goal.invariant-loop-product
invariant-loop-product l = l.records ≡ flat_map product_records (take l.product-index l.products)
