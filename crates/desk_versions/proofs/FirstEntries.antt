-- Messages without minimums leave catalogues without them.
use Rattle.std.proofs.Common.{◌≡◌, ◌||◌, ◌∷◌, ◌∙◌, [], List, refl, ap, map}
use Rattle.std.specs.Prelude.{⊤, false, nat_lt}
use Rattle.std.specs.List.{AllByRecursion, flat_map}
use Rattle.onix_records.specs.PartRows.{content_rows, detail_rows, product_rows, supply_rows}
use Rattle.onix_records.specs.declared.parts.Price.{Price}
use Rattle.onix_records.specs.declared.parts.Product.{Product}
use Rattle.onix_records.specs.declared.parts.ProductSupply.{ProductSupply}
use Rattle.onix_records.specs.declared.parts.SupplyDetail.{SupplyDetail}
use Rattle.onix_records.specs.declared.row.Row.TheVariants as row
use Rattle.catalogue_rules.specs.Records.{ByReference, EachHas}
use Rattle.desk_catalogue.proofs.MinimumLemmas.{none_after}
use Rattle.desk_catalogue.specs.Minimums.{HasNoMinimums, details_have_minimums, prices_have_minimums, products_have_minimums, supplies_have_minimums}
use Rattle.series_rules.specs.Series.{after_all, after_standing}
use Rattle.series_rules.specs.declared.requests.Standing.{Standing}
use Rattle.series_rules.specs.declared.requests.Standing.TheVariants.{Message, Waived}
use Rattle.desk_versions.proofs.FirstForm.{HasNoMinimum, all_left, all_right}

-- ---- contents, by their rows

of_prices : (ps : List Price) → AllByRecursion HasNoMinimum (map row.Price ps) → prices_have_minimums ps ≡ false
of_prices [] all = refl
of_prices (p ∷ ps) all = ap (λ m. nat_lt 1 m || prices_have_minimums ps) all.0 ∙ of_prices ps all.1

of_details : (ds : List SupplyDetail) → AllByRecursion HasNoMinimum (flat_map detail_rows ds) → details_have_minimums ds ≡ false
of_details [] all = refl
of_details (d ∷ ds) all =
    ap (λ b. b || details_have_minimums ds) (of_prices d.prices (all_left HasNoMinimum (detail_rows d) (flat_map detail_rows ds) all).1)
    ∙ of_details ds (all_right HasNoMinimum (detail_rows d) (flat_map detail_rows ds) all)

of_supplies : (supplies : List ProductSupply) → AllByRecursion HasNoMinimum (flat_map supply_rows supplies) → supplies_have_minimums supplies ≡ false
of_supplies [] all = refl
of_supplies (s ∷ more) all =
    ap (λ b. b || supplies_have_minimums more) (of_details s.details (all_left HasNoMinimum (supply_rows s) (flat_map supply_rows more) all).1)
    ∙ of_supplies more (all_right HasNoMinimum (supply_rows s) (flat_map supply_rows more) all)

pub of_products : (ps : List Product) → AllByRecursion HasNoMinimum (content_rows ps) → products_have_minimums ps ≡ false
of_products [] all = refl
of_products (p ∷ ps) all =
    ap (λ b. b || products_have_minimums ps) (of_supplies p.supplies (all_left HasNoMinimum (product_rows p) (content_rows ps) all).1)
    ∙ of_products ps (all_right HasNoMinimum (product_rows p) (content_rows ps) all)

-- ---- what stands

-- no price of the message has one
abbrev pub StandingHasNone : Standing → Type 0
StandingHasNone (Message c) = products_have_minimums c ≡ false
StandingHasNone Waived = ⊤

none_after_standing : (m : ByReference) (h : Standing) → StandingHasNone h → EachHas HasNoMinimums m → EachHas HasNoMinimums (after_standing m h)
none_after_standing m (Message c) own each = none_after m c own each
none_after_standing m Waived own each = each

pub none_after_all : (m : ByReference) (hs : List Standing) → AllByRecursion StandingHasNone hs → EachHas HasNoMinimums m → EachHas HasNoMinimums (after_all m hs)
none_after_all m [] all each = each
none_after_all m (h ∷ hs) all each = none_after_all (after_standing m h) hs all.1 (none_after_standing m h all.0 each)
