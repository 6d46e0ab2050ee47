-- Rows of parts.
use Rattle.std.proofs.Common.{◌≡◌, ◌∷◌, ◌≤◌, [], List, refl, arith, length, length-append, false, None, Some}
use Rattle.std.specs.List.{flat_map}
use Rattle.onix_records.specs.PartRows.{product_rows, supply_rows}
use Rattle.onix_records.specs.Draft.{allows}
use Rattle.onix_records.specs.declared.draft.Part.{Part}
use Rattle.onix_records.specs.declared.draft.Part.TheVariants as part
use Rattle.onix_records.specs.declared.parts.Header.{Header}
use Rattle.onix_records.specs.declared.parts.Product.{Product}
use Rattle.onix_records.specs.declared.row.Row.TheVariants as row

-- each product has a row of its own
pub length-products : (ps : List Product) → length ps ≤ length (flat_map product_rows ps)
length-products [] = omega arith
length-products (p ∷ ps) =
    let h = length-products ps in
    let l = length-append (flat_map supply_rows p.supplies) (flat_map product_rows ps) in
    omega (arith, h, l)

-- a second Message row is never allowed
pub no-header : (p : Part) (h : Header) → allows p (row.Message h) ≡ false
no-header part.Nothing h = refl
no-header (part.InProduct p) h = refl
no-header (part.InSupply p s None) h = refl
no-header (part.InSupply p s (Some d)) h = refl
no-header (part.Ended n) h = refl
