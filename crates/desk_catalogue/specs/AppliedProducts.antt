-- What one product does to the rows of a catalogue.
use Rattle.std.specs.Prelude.{◌≡◌, ℕ, Bool, List, Option, false}
use Rattle.std.specs.FinMap as map
use Rattle.onix_records.specs.declared.parts.Product.{Product}
use Rattle.catalogue_rules.specs.Effects.{after_product, change_of, counted, entry_after}
use Rattle.catalogue_rules.specs.Records.{ByReference, EachHas}
use Rattle.catalogue_rules.specs.declared.change.Change.{Change}
use Rattle.onix_records.specs.declared.effects.Effect.{Effect}
use Rattle.catalogue_rules.specs.declared.entry.Entry.{Entry}
use Rattle.desk_tables.specs.Rows.{DeskRows}
use Rattle.desk_tables.specs.declared.records.RecordRow.{RecordRow}
use Rattle.desk_catalogue.specs.Holding.{Became, HoldsCatalogue, HoldsEntry, other_catalogues}
use Rattle.desk_catalogue.specs.Storable.{IsStorableProduct}
use Rattle.desk_catalogue.specs.ReadRows.{IsFound}
use Rattle.desk_catalogue.specs.Minimums.{HasNoMinimums}
use Rattle.desk_catalogue.specs.declared.record_rows.FoundRecord.{FoundRecord}

-- the record, of which that was found, became what the product asks for
abbrev pub IsChanged : Change → RecordRow → Product → FoundRecord → DeskRows → DeskRows → Type 0
IsChanged change row p found rows after =
    (o : Option Entry) → HoldsEntry row.series row.reference o rows → IsFound row p o found
    → IsStorableProduct p → Became row.series row.reference (entry_after change p o) rows after

-- the rows of the series became those of the catalogue after the product, which is counted, and all
-- others stayed
pub record IsProductApplied (series : List ℕ) (m : ByReference) (p : Product) (before : Effect)
    (rows : DeskRows) (effect : Effect) (after : DeskRows) : Type 0 where
  pub catalogue : HoldsCatalogue series (after_product m p) after
  pub counts : effect ≡ counted (change_of p.notification) (map.get m p.reference) before
  pub others : other_catalogues series after ≡ other_catalogues series rows

-- where prices are read as those of records without minimums, the catalogue has none
abbrev pub IsCatalogueReadAs : Bool → ByReference → Type 0
IsCatalogueReadAs with_minimums m = with_minimums ≡ false → EachHas HasNoMinimums m
