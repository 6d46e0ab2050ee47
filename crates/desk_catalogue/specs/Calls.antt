-- What each function makes of the rows, in the transaction that it is lent.
use Rattle.std.specs.Prelude.{◌≡◌, ◌≢◌, [], ℕ, Bool, List, None, Some, false}
use Rattle.std.specs.List.{AllZip}
use Rattle.onix_records.specs.declared.parts.Price.{Price}
use Rattle.onix_records.specs.declared.parts.Product.{Product}
use Rattle.onix_records.specs.declared.parts.ProductIdentifier.{ProductIdentifier}
use Rattle.onix_records.specs.declared.parts.ProductSupply.{ProductSupply}
use Rattle.onix_records.specs.declared.effects.Effect.{Effect}
use Rattle.catalogue_rules.specs.Records.{ByReference}
use Rattle.catalogue_rules.specs.declared.change.Change.{Change}
use Rattle.catalogue_rules.specs.declared.entry.Entry.{Entry}
use Rattle.desk_tables.specs.RecordChanges.{has_minimums_of}
use Rattle.desk_tables.specs.Rows.{DeskRows}
use Rattle.desk_tables.specs.declared.offers.OfferRow as typed
use Rattle.desk_tables.specs.declared.records.RecordRow.{RecordRow}
use Rattle.desk_catalogue.specs.AppliedProducts.{IsChanged}
use Rattle.desk_catalogue.specs.Holding.{Became, HoldsCatalogue, HoldsEntry, IsApplied}
use Rattle.desk_catalogue.specs.ReadRows.{AreReadAs, Finds, HasPricesOf, HoldsSupplies, IsReadAs}
use Rattle.desk_catalogue.specs.Storable.{AreStorable}
use Rattle.desk_catalogue.specs.declared.record_rows.FoundRecord.{FoundRecord}

-- the rows stay, and the answer is true of them
abbrev pub KeepsRows : {A : Type 0} → (DeskRows → A → Type 0) → DeskRows → A → DeskRows → Type 0
KeepsRows Answer rows a after = (after ≡ rows) × Answer rows a

-- the rows are changed so
abbrev pub ChangesRows : {A : Type 0} → (DeskRows → DeskRows) → DeskRows → A → DeskRows → Type 0
ChangesRows change rows _ after = after ≡ change rows

-- ---- read

-- the prices of an offer, which are read without minimums only where its record has none
abbrev pub HasPricesAs : Bool → typed.OfferRow → DeskRows → List Price → Type 0
HasPricesAs with_minimums offer rows prices =
    (with_minimums ≡ false → has_minimums_of offer.series offer.reference rows ≡ false)
    → HasPricesOf rows offer prices

-- the prices of each of the offers, read so
abbrev pub HavePricesAs : Bool → List typed.OfferRow → DeskRows → List (List Price) → Type 0
HavePricesAs with_minimums offers rows prices = AreReadAs with_minimums offers rows
    → AllZip (HasPricesOf rows) offers prices

-- the entry of a record that is there
abbrev pub IsEntryOf : RecordRow → DeskRows → Entry → Type 0
IsEntryOf row rows entry = (e : Entry) → HoldsEntry row.series row.reference (Some e) rows
    → entry ≡ e

-- whether the supplies of the record have the rows of these, where its prices are read so
abbrev pub HoldsSuppliesAs : Bool → RecordRow → List ProductSupply → DeskRows → Bool → Type 0
HoldsSuppliesAs with_minimums row supplies rows b = IsReadAs with_minimums row rows
    → HoldsSupplies row supplies rows b

-- what is found of the record of a product, where its prices are read so
abbrev pub FindsAs : Bool → RecordRow → Product → DeskRows → FoundRecord → Type 0
FindsAs with_minimums row p rows found = IsReadAs with_minimums row rows → Finds row p rows found

-- the catalogue of the series
abbrev pub IsCatalogueOf : List ℕ → DeskRows → ByReference → Type 0
IsCatalogueOf series rows catalogue = (m : ByReference) → HoldsCatalogue series m rows
    → catalogue ≡ m

-- ---- written

-- a record without rows gets those of these identifiers and supplies
abbrev pub Writes : {A : Type 0} → RecordRow → List ProductIdentifier → List ProductSupply
    → DeskRows → A → DeskRows → Type 0
Writes row ids supplies rows _ after =
    HoldsEntry row.series row.reference None rows → ids ≢ [] → AreStorable supplies
    → Became row.series row.reference (Some (record { ids = ids; supplies = supplies })) rows
    after

-- a record, whatever rows it has, gets those of these identifiers and supplies
abbrev pub Rewrites : {A : Type 0} → RecordRow → List ProductIdentifier → List ProductSupply
    → DeskRows → A → DeskRows → Type 0
Rewrites row ids supplies rows _ after = ids ≢ [] → AreStorable supplies
    → Became row.series row.reference (Some (record { ids = ids; supplies = supplies })) rows after

-- a record has no rows any more
abbrev pub Removes : {A : Type 0} → RecordRow → DeskRows → A → DeskRows → Type 0
Removes row rows _ after = Became row.series row.reference None rows after

-- a record that is there has these supplies
abbrev pub ReplacesSupplies : {A : Type 0} → RecordRow → List ProductSupply → DeskRows → A
    → DeskRows → Type 0
ReplacesSupplies row supplies rows _ after =
    (e : Entry) → HoldsEntry row.series row.reference (Some e) rows → AreStorable supplies
    → Became row.series row.reference (Some (record e { supplies = supplies })) rows after

-- ---- applied

-- the record, of which that was found, becomes what the product asks for
abbrev pub CarriesOut : {A : Type 0} → Change → RecordRow → Product → FoundRecord → DeskRows → A
    → DeskRows → Type 0
CarriesOut change row p found rows _ after = IsChanged change row p found rows after

-- the catalogue of the series gets the products, and the answer is their effect
abbrev pub AppliesMessage : List ℕ → List Product → DeskRows → Effect → DeskRows → Type 0
AppliesMessage series products rows effect after = (m : ByReference) → HoldsCatalogue series m rows
    → IsApplied series m products rows effect after
