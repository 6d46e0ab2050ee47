-- What is read of one record.
use Rattle.std.specs.Prelude.{◌≡◌, Bool, IsTrue, List, Option, Some, false, true}
use Rattle.std.specs.Option.{is_some}
use Rattle.onix_records.specs.declared.parts.Price.{Price}
use Rattle.onix_records.specs.declared.parts.Product.{Product}
use Rattle.onix_records.specs.declared.parts.ProductIdentifier.{ProductIdentifier}
use Rattle.onix_records.specs.declared.parts.ProductSupply.{ProductSupply}
use Rattle.catalogue_rules.specs.declared.entry.Entry.{Entry}
use Rattle.desk_tables.specs.ArticleAnswers.{ArePricesAt}
use Rattle.desk_tables.specs.RecordChanges.{has_minimums_of}
use Rattle.desk_tables.specs.Rows.{DeskRows}
use Rattle.desk_tables.specs.declared.offers.OfferRow as typed
use Rattle.desk_tables.specs.declared.records.RecordRow.{RecordRow}
use Rattle.desk_catalogue.specs.EntryRows.{article_rows, offer_rows_of, price_rows_of, ids_of, supplies_of}
use Rattle.desk_catalogue.specs.Holding.{HoldsEntry}
use Rattle.desk_catalogue.specs.declared.record_rows.FoundRecord.{FoundRecord}
use Rattle.desk_catalogue.specs.declared.record_rows.FoundRecord.TheVariants.{Absent, Present}
use Rattle.std.specs.List.{All}

-- the prices are those of that offer
abbrev pub HasPricesOf : DeskRows → typed.OfferRow → List Price → Type 0
HasPricesOf rows offer prices = ArePricesAt offer.series offer.reference offer.place rows prices

-- the identifiers of the record have the rows of these
abbrev pub HasIdentifierRows : RecordRow → List ProductIdentifier → List ProductIdentifier → Type 0
HasIdentifierRows row ids was =
    article_rows row.series row.reference was ≡ article_rows row.series row.reference ids

-- whether a record is there, and with `true` its identifiers have the rows of these
abbrev pub TellsIdentifiers : RecordRow → List ProductIdentifier → DeskRows → Option Bool → Type 0
TellsIdentifiers row ids rows same = (o : Option Entry) → HoldsEntry row.series row.reference o rows
    → (is_some o ≡ is_some same) × (same ≡ Some true → HasIdentifierRows row ids (ids_of o))

-- the supplies of the record have the rows of these
pub record HasSupplyRows (row : RecordRow) (supplies was : List ProductSupply) : Type 0 where
  pub offers : offer_rows_of row.series row.reference was
      ≡ offer_rows_of row.series row.reference supplies
  pub prices : price_rows_of row.series row.reference was
      ≡ price_rows_of row.series row.reference supplies

-- whether a record was found
abbrev pub is_there : FoundRecord → Bool
is_there Absent = false
is_there (Present same_ids same_supplies) = true

-- whether its identifiers are those of the product
abbrev pub has_same_identifiers : FoundRecord → Bool
has_same_identifiers Absent = false
has_same_identifiers (Present same_ids same_supplies) = same_ids

-- whether its supplies are
abbrev pub has_same_supplies : FoundRecord → Bool
has_same_supplies Absent = false
has_same_supplies (Present same_ids same_supplies) = same_supplies

-- what is found of the record of a product: whether it is there, and whether its identifiers and
-- its supplies have the rows of the product's
pub record IsFound (row : RecordRow) (p : Product) (entry : Option Entry)
    (found : FoundRecord) : Type 0 where
  pub there : is_some entry ≡ is_there found
  pub same_identifiers : has_same_identifiers found ≡ true
      → HasIdentifierRows row p.ids (ids_of entry)
  pub same_supplies : has_same_supplies found ≡ true
      → HasSupplyRows row p.supplies (supplies_of entry)

abbrev pub Finds : RecordRow → Product → DeskRows → FoundRecord → Type 0
Finds row p rows found = (o : Option Entry) → HoldsEntry row.series row.reference o rows
    → IsFound row p o found

-- with `true` the supplies of the record have the rows of these
abbrev pub HoldsSupplies : RecordRow → List ProductSupply → DeskRows → Bool → Type 0
HoldsSupplies row supplies rows b = (o : Option Entry) → HoldsEntry row.series row.reference o rows
    → IsTrue b → HasSupplyRows row supplies (supplies_of o)

-- where prices are read as those of records without minimums, the tables have none of these records
abbrev pub AreReadAs : Bool → List typed.OfferRow → DeskRows → Type 0
AreReadAs with_minimums offers rows = with_minimums ≡ false
    → All (λ (offer : typed.OfferRow). has_minimums_of offer.series offer.reference rows ≡ false)
    offers

-- if no minimums are asked for, the record has none
abbrev pub IsReadAs : Bool → RecordRow → DeskRows → Type 0
IsReadAs with_minimums row rows = with_minimums ≡ false
    → has_minimums_of row.series row.reference rows ≡ false
