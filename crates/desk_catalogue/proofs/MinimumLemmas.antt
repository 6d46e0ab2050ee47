-- Which rows of minimums there are, by the prices of a catalogue.
use Rattle.std.specs.Prelude.{◌≡◌, ◌+◌, ◌&&◌, ◌||◌, ℕ, suc, Bool, true, false, List, [], ◌∷◌, map, filter, take, Option, Some, None, IfSome}
use Rattle.std.specs.Cmp.Lexicographic.{slice_cmp}
use Rattle.std.specs.FinMap as fin
use Rattle.std.specs.FinMap.{get-empty}
use Rattle.std.specs.List.{enumerate_from, flat_map, list_any}
use Rattle.std.specs.Ordering.{nat_cmp}
use Rattle.std.specs.Str.{bytes_eq}
use Rattle.std.proofs.Common.{ap, inl, inr, nat_lt, refl, subst, sym, zero, ◌∙◌}
use Rattle.std.proofs.lemmas.Bool.{cases_Bool}
use Rattle.std.proofs.lemmas.List.Folds.{list_any-append}
use Rattle.std.proofs.lemmas.List.Sorted.{list_any-IsPermutation}
use Rattle.onix_records.specs.declared.parts.Price.{Price}
use Rattle.onix_records.specs.declared.parts.Product.{Product}
use Rattle.onix_records.specs.declared.parts.ProductSupply.{ProductSupply}
use Rattle.onix_records.specs.declared.parts.SupplyDetail.{SupplyDetail}
use Rattle.onix_terms.specs.declared.territory.Territory.{Territory}
use Rattle.catalogue_rules.proofs.Bounds.{each-changed}
use Rattle.catalogue_rules.proofs.Plans.{changes_at-with_entry}
use Rattle.catalogue_rules.specs.Effects.{after, after_product, change_of, entry_after, updated}
use Rattle.catalogue_rules.specs.Records.{ByReference, EachHas}
use Rattle.catalogue_rules.specs.declared.change.Change.{Change}
use Rattle.catalogue_rules.specs.declared.change.Change.TheVariants.{Replace, Update, Delete, Ignore}
use Rattle.catalogue_rules.specs.declared.entry.Entry.{Entry}
use Rattle.desk_tables.proofs.ArticleLists.{any_within}
use Rattle.desk_tables.specs.RecordAnswers.{has_minimums, is_minimum_in}
use Rattle.desk_tables.specs.RecordChanges.{has_minimums_of, is_minimum_of}
use Rattle.desk_tables.specs.RecordRows.{minimum_row}
use Rattle.desk_tables.specs.Rows.{DeskRows}
use Rattle.desk_tables.specs.declared.prices.MinimumRow.{MinimumRow}
use Rattle.desk_tables.specs.declared.records.RecordRow.{RecordRow}
use Rattle.desk_catalogue.specs.AppliedProducts.{IsCatalogueReadAs}
use Rattle.desk_catalogue.specs.ReadRows.{IsReadAs}
use Rattle.desk_catalogue.specs.EntryRows.{SuppliedDetail, has_minimum, numbered_details, offer_price_row, offer_price_rows, price_rows_of, record_row, supplied_details, supplies_of}
use Rattle.desk_catalogue.specs.Holding.{HoldsCatalogue, HoldsEntry}
use Rattle.desk_catalogue.specs.Minimums.{HasNoMinimums, details_have_minimums, prices_have_minimums, products_have_minimums, supplies_have_minimums}

-- ---- the rows of prices

module _ (series reference : List ℕ) where
  of_prices : (place n : ℕ) (ps : List Price)
      → list_any has_minimum (map (offer_price_row series reference place) (enumerate_from n ps))
      ≡ prices_have_minimums ps
  of_prices place n [] = refl
  of_prices place n (p ∷ ps) = ap (λ b. nat_lt 1 p.minimum || b) (of_prices place (n + 1) ps)

  of_details : (n : ℕ) (ds : List SuppliedDetail)
      → list_any has_minimum (flat_map (offer_price_rows series reference) (enumerate_from n ds))
      ≡ list_any (λ (d : SuppliedDetail). prices_have_minimums d.detail.prices) ds
  of_details n [] = refl
  of_details n (d ∷ ds) =
      let own = offer_price_rows series reference (n, d) in
      let rest = flat_map (offer_price_rows series reference) (enumerate_from (n + 1) ds) in
      list_any-append has_minimum own rest
      ∙ ap (λ b. b || list_any has_minimum rest) (of_prices n 1 d.detail.prices)
      ∙ ap (λ b. prices_have_minimums d.detail.prices || b) (of_details (n + 1) ds)

of_supply : (n : ℕ) (market : Territory) (ds : List SupplyDetail)
    → list_any (λ (d : SuppliedDetail). prices_have_minimums d.detail.prices)
    (map (λ d. record { supply = n; market = market; detail = d }) ds)
    ≡ details_have_minimums ds
of_supply n market [] = refl
of_supply n market (d ∷ ds) = ap (λ b. prices_have_minimums d.prices || b) (of_supply n market ds)

of_supplies : (n : ℕ) (supplies : List ProductSupply)
    → list_any (λ (d : SuppliedDetail). prices_have_minimums d.detail.prices)
    (flat_map numbered_details (enumerate_from n supplies)) ≡ supplies_have_minimums supplies
of_supplies n [] = refl
of_supplies n (s ∷ more) =
    let test : SuppliedDetail → Bool = λ d. prices_have_minimums d.detail.prices in
    let rest = flat_map numbered_details (enumerate_from (n + 1) more) in
    list_any-append test (numbered_details (n, s)) rest
    ∙ ap (λ b. b || list_any test rest) (of_supply n s.market s.details)
    ∙ ap (λ b. details_have_minimums s.details || b) (of_supplies (n + 1) more)

pub any_minimum : (series reference : List ℕ) (supplies : List ProductSupply)
    → list_any has_minimum (price_rows_of series reference supplies)
    ≡ supplies_have_minimums supplies
any_minimum series reference supplies = of_details series reference 1 (supplied_details supplies) ∙
    of_supplies 1 supplies

-- ---- an entry and a catalogue that are held

any_filtered : {A : Type 0} (p : A → Bool) (xs : List A)
    → list_any (λ x. true) (filter p xs) ≡ list_any p xs
any_filtered p [] = refl
any_filtered p (x ∷ xs) = elim (cases_Bool (p x))
    [ inl here ↦ rw here refl | inr misses ↦ rw misses (any_filtered p xs) ]

any_mapped : {A B : Type 0} (f : A → B) (xs : List A)
    → list_any (λ y. true) (map f xs) ≡ list_any (λ x. true) xs
any_mapped f [] = refl
any_mapped f (x ∷ xs) = refl

-- the tables have minimums of a record that is held where its prices have some
pub held_minimums : (series reference : List ℕ) (o : Option Entry) (rows : DeskRows)
    → HoldsEntry series reference o rows
    → has_minimums_of series reference rows ≡ supplies_have_minimums (supplies_of o)
held_minimums series reference o rows held =
    let prices = price_rows_of series reference (supplies_of o) in
    sym (any_filtered (is_minimum_of series reference) rows.minimums)
    ∙ list_any-IsPermutation (λ (r : MinimumRow). true) _ _ held.minimums
    ∙ any_mapped minimum_row (filter has_minimum prices)
    ∙ any_filtered has_minimum prices
    ∙ any_minimum series reference (supplies_of o)

of_series : (a b : Bool) → (a && b) ≡ true → a ≡ true
of_series true b e = refl
of_series false b e = absurd cc

none_of : (series reference : List ℕ) (o : Option Entry) (rows : DeskRows)
    → HoldsEntry series reference o rows → has_minimums_of series reference rows ≡ false
    → IfSome o HasNoMinimums
none_of series reference None rows held none = tt
none_of series reference (Some e) rows held none =
    sym (held_minimums series reference (Some e) rows held) ∙ none

-- where a series has no minimums, no price of its catalogue does
pub held_without_minimums : (series : List ℕ) (m : ByReference) (rows : DeskRows)
    → HoldsCatalogue series m rows → has_minimums series rows ≡ false → EachHas HasNoMinimums m
held_without_minimums series m rows held none = λ q.
    none_of series q (fin.get m q) rows (held q)
    (any_within (is_minimum_of series q) (is_minimum_in series) rows.minimums
    (λ r. of_series (bytes_eq r.series series) (bytes_eq r.reference q)) none)

-- and if no price of a catalogue has one, the tables have none of its records
pub records_without_minimums : (series reference : List ℕ) (m : ByReference) (rows : DeskRows)
    → HoldsCatalogue series m rows → EachHas HasNoMinimums m
    → has_minimums_of series reference rows ≡ false
records_without_minimums series reference m rows held each =
    held_minimums series reference (fin.get m reference) rows (held reference) ∙ supplies_lack
    (fin.get m reference) (each reference)
  where
    supplies_lack : (o : Option Entry) → IfSome o HasNoMinimums
        → supplies_have_minimums (supplies_of o) ≡ false
    supplies_lack None h = refl
    supplies_lack (Some e) h = h

-- so that a record is read as its catalogue is
pub record_read_as : (with_minimums : Bool) (series reference : List ℕ) (m : ByReference) (row : RecordRow) (rows : DeskRows) → row ≡ record_row series reference → HoldsCatalogue series m rows → IsCatalogueReadAs with_minimums m → IsReadAs with_minimums row rows
record_read_as with_minimums series reference m row rows is held reads without =
    subst (λ (x : RecordRow). has_minimums_of x.series x.reference rows ≡ false) (sym is) (records_without_minimums series reference m rows held (reads without))

-- ---- what products leave

neither : (a b : Bool) → (a || b) ≡ false → (a ≡ false) × (b ≡ false)
neither false b e = (refl, e)
neither true b e = absurd cc

updated_lacks : (e : Entry) (supplies : List ProductSupply)
    → supplies_have_minimums supplies ≡ false → HasNoMinimums e → HasNoMinimums (updated e supplies)
updated_lacks e [] own was = was
updated_lacks e (s ∷ more) own was = own

entry_lacks : (change : Change) (p : Product) (was : Option Entry)
    → supplies_have_minimums p.supplies ≡ false → IfSome was HasNoMinimums
    → IfSome (entry_after change p was) HasNoMinimums
entry_lacks Replace p was own had = own
entry_lacks Update p None own had = tt
entry_lacks Update p (Some e) own had = updated_lacks e p.supplies own had
entry_lacks Delete p was own had = tt
entry_lacks Ignore p was own had = had

-- products without minimums leave a catalogue without them
pub none_after : (m : ByReference) (ps : List Product) → products_have_minimums ps ≡ false
    → EachHas HasNoMinimums m → EachHas HasNoMinimums (after m ps)
none_after m [] none each = each
none_after m (p ∷ ps) none each =
    let now = entry_after (change_of p.notification) p (fin.get m p.reference) in
    let both = neither (supplies_have_minimums p.supplies) (products_have_minimums ps) none in
    none_after (after_product m p) ps both.1
    (each-changed HasNoMinimums m (after_product m p) p.reference now
    (changes_at-with_entry m p.reference now)
    (entry_lacks (change_of p.notification) p (fin.get m p.reference) both.0 (each p.reference))
    each)

none_among : (i : ℕ) (ps : List Product) → products_have_minimums ps ≡ false
    → products_have_minimums (take i ps) ≡ false
none_among zero ps none = refl
none_among (suc i) [] none = refl
none_among (suc i) (p ∷ ps) none =
    let both = neither (supplies_have_minimums p.supplies) (products_have_minimums ps) none in
    ap (λ b. b || products_have_minimums (take i ps)) both.0 ∙ none_among i ps both.1

-- and so do the first ones of them
pub none_after_first : (m : ByReference) (i : ℕ) (ps : List Product)
    → products_have_minimums ps ≡ false → EachHas HasNoMinimums m
    → EachHas HasNoMinimums (after m (take i ps))
none_after_first m i ps none each = none_after m (take i ps) (none_among i ps none) each

pub none_at_start : EachHas HasNoMinimums fin.empty
none_at_start q = subst (λ (o : Option Entry). IfSome o HasNoMinimums)
    (sym (get-empty (slice_cmp nat_cmp) q)) tt
