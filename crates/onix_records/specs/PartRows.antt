-- The rows of a part of a message, in order: its own, and then those of the parts in it.
use Rattle.std.specs.Prelude.{List, [], ◌∷◌, ◌++◌, ◌≢◌, ◌+◌, length, map}
use Rattle.std.specs.List.{AllByRecursion, flat_map}
use Rattle.onix_records.specs.declared.parts.Product.{Product}
use Rattle.onix_records.specs.declared.parts.ProductSupply.{ProductSupply}
use Rattle.onix_records.specs.declared.parts.SupplyDetail.{SupplyDetail}
use Rattle.onix_records.specs.declared.row.Row.{Row}
use Rattle.onix_records.specs.declared.row.Row.TheVariants as row

-- a detail's row and those of its prices
abbrev pub detail_rows : SupplyDetail → List Row
detail_rows d = row.SupplyDetail (record d { prices = [] }) ∷ map row.Price d.prices

-- a supply's row and those of its details
abbrev pub supply_rows : ProductSupply → List Row
supply_rows s = row.ProductSupply (record s { details = [] }) ∷ flat_map detail_rows s.details

-- a product's row and those of its supplies
abbrev pub product_rows : Product → List Row
product_rows p = row.Product (record p { supplies = [] }) ∷ flat_map supply_rows p.supplies

-- the rows of products, one after the other
abbrev pub content_rows : List Product → List Row
content_rows products = flat_map product_rows products

-- the rows after the first: the contents, and the end, which counts the records before it
abbrev pub rows_after : List Product → List Row
rows_after products =
    content_rows products ++ row.EndMessage (1 + length (content_rows products)) ∷ []

-- each supply has a detail
abbrev pub HasDetails : ProductSupply → Type 0
HasDetails s = s.details ≢ []

-- each supply of a product has a SupplyDetail
abbrev pub SuppliesHaveDetails : Product → Type 0
SuppliesHaveDetails p = AllByRecursion HasDetails p.supplies
