use Rattle.std.proofs.Common.{◌≡◌, take}
use Rattle.std.specs.List.{flat_map}
use Rattle.desk_catalogue.proofs.runs.rows_of.Given as goal

abbrev pub invariant-loop-product : goal.invariant-loop-product
invariant-loop-product g l = l.rows.items ≡ flat_map (g.R.ProductRow.rows_of l.series) (take l.product-index l.products)
