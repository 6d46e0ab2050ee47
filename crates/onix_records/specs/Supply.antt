-- The supply of a product to a market: the row ProductSupply, as it is read and as it is written,
-- and the records of supplies.
use Rattle.std.specs.Prelude.{ℕ, List, [], ◌∷◌, Option, Some, None, codes}
use Rattle.std.specs.List.{flat_map}
use Rattle.onix_terms.specs.Options.{◌>>=◌}
use Rattle.onix_terms.specs.Territory.{territory_of}
use Rattle.onix_records.specs.Fields.{territory_fields}
use Rattle.onix_records.specs.Detail.{detail_records}
use Rattle.onix_records.specs.declared.parts.ProductSupply.{ProductSupply}

-- the market that the fields of a ProductSupply record say
abbrev pub supply_of : List (List ℕ) → Option ProductSupply
supply_of (included ∷ regions ∷ excluded ∷ []) = do
  t ← territory_of included regions excluded
  Some (record { market = t; details = [] })
supply_of _ = None

-- a supply's row
abbrev pub supply_record : ProductSupply → List (List ℕ)
supply_record s = codes "ProductSupply" ∷ territory_fields s.market

-- a supply's record and those of its details
unfoldable pub supply_records : ProductSupply → List (List (List ℕ))
supply_records s = supply_record s ∷ flat_map detail_records s.details

-- the records of the supplies of a product
unfoldable pub supplies_records : List ProductSupply → List (List (List ℕ))
supplies_records supplies = flat_map supply_records supplies
