-- One record of a message, and the row that it is.
use Rattle.std.specs.Prelude.{ℕ, List, [], ◌∷◌, Option, None, if◌then◌else◌, option_map, codes}
use Rattle.std.specs.List.{list_all}
use Rattle.std.specs.Str.{bytes_eq}
use Rattle.onix_terms.specs.Digits.{digits_of}
use Rattle.onix_records.specs.Fields.{is_clean}
use Rattle.onix_records.specs.Opening.{opening_fields}
use Rattle.onix_records.specs.Price.{price_of}
use Rattle.onix_records.specs.Product.{product_of}
use Rattle.onix_records.specs.Detail.{detail_of}
use Rattle.onix_records.specs.Supply.{supply_of}
use Rattle.onix_records.specs.declared.row.Opening.{Opening}
use Rattle.onix_records.specs.declared.row.Row.{Row}
use Rattle.onix_records.specs.declared.row.Row.TheVariants as row

-- the header in a Message row
abbrev pub message_row : Opening → Row
message_row o = row.Message o.header

-- a count of records
abbrev pub end_of : List (List ℕ) → Option ℕ
end_of (count ∷ []) = digits_of count
end_of _ = None

-- the row that the fields after a name make, in a message that begins so
abbrev pub named_row : Opening → List ℕ → List (List ℕ) → Option Row
named_row o name fields =
    if bytes_eq name (codes "Message") then option_map message_row (opening_fields fields)
    else if bytes_eq name (codes "Product") then option_map row.Product (product_of fields)
    else if bytes_eq name (codes "ProductSupply")
    then option_map row.ProductSupply (supply_of fields)
    else if bytes_eq name (codes "SupplyDetail") then option_map row.SupplyDetail (detail_of fields)
    else if bytes_eq name (codes "Price") then option_map row.Price (price_of o fields)
    else if bytes_eq name (codes "EndMessage") then option_map row.EndMessage (end_of fields)
    else None

-- the row that a record is in a message that begins so, if it is none that is wrong
unfoldable pub row_of : Opening → List (List ℕ) → Option Row
row_of o [] = None
row_of o (name ∷ fields) =
    if list_all is_clean (name ∷ fields) then named_row o name fields else None
