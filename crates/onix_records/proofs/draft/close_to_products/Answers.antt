use Rattle.std.proofs.Common.{List, [], ◌++◌, ◌≡◌, ◌∙◌, ap, refl, true, false, None, Some}
use Rattle.std.specs.List.{flat_map}
use Rattle.onix_records.specs.Draft.{AllowsProduct, RefusesProduct, RefusesSupply, allows}
use Rattle.onix_records.specs.PartRows.{product_rows}
use Rattle.onix_records.specs.declared.draft.Part.{Part}
use Rattle.onix_records.specs.declared.draft.Part.TheVariants as part
use Rattle.onix_records.specs.declared.row.RowFault.{RowFault}
use Rattle.onix_records.specs.declared.row.RowFault.TheVariants as fault
use Rattle.onix_records.specs.declared.parts.ProductSupply.{ProductSupply}
use Rattle.onix_records.specs.declared.row.Row.{Row}
use Rattle.onix_records.specs.declared.row.Row.TheVariants as row
use Rattle.onix_records.proofs.draft.close_to_products.Goals as goal

some-supply : ProductSupply
some-supply = record { market = record { included = []; world = false; excluded = [] }; details = [] }

-- where a supply may come, so may a product and the end
allows-product : (o : Part) → ((s : ProductSupply) → allows o (row.ProductSupply s) ≡ true) → AllowsProduct o
allows-product part.Nothing h = (λ _. refl, λ _. refl)
allows-product (part.InProduct p) h = (λ _. refl, λ _. refl)
allows-product (part.InSupply p s None) h = cc (h s)
allows-product (part.InSupply p s (Some d)) h = (λ _. refl, λ _. refl)
allows-product (part.Ended n) h = cc (h some-supply)

-- if no supply may come, neither may a product nor the end, but at the start
refuses-product : (o : Part) (e : RowFault) → (o ≡ part.Nothing → ⊥) → RefusesSupply o e → RefusesProduct o e
refuses-product o fault.Memory filled h = tt
refuses-product part.Nothing fault.Wrong filled h = absurd (filled refl)
refuses-product (part.InProduct p) fault.Wrong filled h = cc (h some-supply)
refuses-product (part.InSupply p s None) fault.Wrong filled h = (λ _. refl, λ _. refl)
refuses-product (part.InSupply p s (Some d)) fault.Wrong filled h = cc (h s)
refuses-product (part.Ended n) fault.Wrong filled h = (λ _. refl, λ _. refl)

pub returns-in-Err : goal.returns-in-Err
returns-in-Err c = record {
  rows = tt;
  details = tt;
  allowed = tt;
  refused = refuses-product c.args.part c.in-Err.fault c.in_default.not-Nothing c.in-Err.ensures.refused;
}

pub returns-in_ok-push_product-in-Ok : goal.returns-in_ok-push_product-in-Ok
returns-in_ok-push_product-in-Ok c = record {
  rows = c.in_ok-push_product-in-Ok.ensures.rows ∙ ap (λ (t : List Row). flat_map product_rows c.args.products.now ++ t) c.in-Ok.ensures.rows;
  details = c.in_ok-push_product-in-Ok.ensures.details;
  allowed = allows-product c.args.part c.in-Ok.ensures.allowed;
  refused = tt;
}
