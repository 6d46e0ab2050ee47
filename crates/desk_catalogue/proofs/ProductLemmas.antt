-- A product and a message applied.
use Rattle.std.proofs.Common.{◌≡◌, ◌≢◌, ◌&&◌, ℕ, Bool, true, false, List, [], ◌∷◌, Option, Some, None, refl, sym, ap, subst, ◌∙◌}
use Rattle.std.specs.FinMap as fin
use Rattle.std.specs.Option.{is_some}
use Rattle.onix_records.specs.declared.parts.Product.{Product}
use Rattle.onix_records.specs.declared.parts.ProductSupply.{ProductSupply}
use Rattle.onix_records.specs.declared.parts.ProductIdentifier.{ProductIdentifier}
use Rattle.catalogue_rules.specs.Effects.{change_of, counted, entry_after, updated}
use Rattle.catalogue_rules.specs.Records.{ByReference}
use Rattle.catalogue_rules.specs.declared.change.Change.{Change}
use Rattle.catalogue_rules.specs.declared.change.Change.TheVariants.{Delete, Replace, Update}
use Rattle.onix_records.specs.declared.effects.Effect.{Effect}
use Rattle.catalogue_rules.specs.declared.entry.Entry.{Entry}
use Rattle.desk_tables.specs.Rows.{DeskRows}
use Rattle.desk_tables.specs.declared.records.RecordRow.{RecordRow}
use Rattle.desk_catalogue.specs.EntryRows.{record_row}
use Rattle.desk_catalogue.specs.Holding.{Became, HoldsCatalogue, HoldsEntry}
use Rattle.desk_catalogue.specs.Storable.{AreStorable, IsStorableProduct}
use Rattle.desk_catalogue.specs.AppliedProducts.{IsChanged, IsProductApplied}
use Rattle.desk_catalogue.specs.ReadRows.{has_same_identifiers, has_same_supplies, is_there}
use Rattle.desk_catalogue.specs.Runs.{IsFoundOf}
use Rattle.desk_catalogue.specs.declared.record_rows.FoundRecord.{FoundRecord}
use Rattle.desk_catalogue.specs.declared.record_rows.FoundRecord.TheVariants.{Absent, Present}
use Rattle.desk_catalogue.proofs.HoldingLemmas.{became_itself, catalogue_became, catalogues_kept, record_stays, supplies_stay}

some_not_false : true ≡ false → ⊥
some_not_false e = cc

none_not_true : false ≡ true → ⊥
none_not_true e = cc

-- ---- replaced whole

module _ (row : RecordRow) (p : Product) (ids : List ProductIdentifier) (supplies : List ProductSupply) (found : FoundRecord) (rows after : DeskRows) (own_ids : ids ≡ p.ids) (own_supplies : supplies ≡ p.supplies) where
  abbrev Replaced : List ProductIdentifier → List ProductSupply → Type 0
  Replaced i l = Became row.series row.reference (Some (record { ids = i; supplies = l })) rows after

  same_product : Replaced ids supplies → Replaced p.ids p.supplies
  same_product b = subst (λ (i : List ProductIdentifier). Replaced i p.supplies) own_ids (subst (λ (l : List ProductSupply). Replaced ids l) own_supplies b)

  some_ids : IsStorableProduct p → ids ≢ []
  some_ids storable none = storable.0 (sym own_ids ∙ none)

  pub replaced_known : is_there found ≡ true → (ids ≢ [] → AreStorable supplies → Replaced ids supplies) → IsChanged Replace row p found rows after
  replaced_known is f None h finds storable = absurd (none_not_true (finds.there ∙ is))
  replaced_known is f (Some e) h finds storable = same_product (f (some_ids storable) (subst AreStorable (sym own_supplies) storable.1))

  pub replaced_unknown : is_there found ≡ false → (HoldsEntry row.series row.reference None rows → ids ≢ [] → AreStorable supplies → Replaced ids supplies) → IsChanged Replace row p found rows after
  replaced_unknown is f None h finds storable = same_product (f h (some_ids storable) (subst AreStorable (sym own_supplies) storable.1))
  replaced_unknown is f (Some e) h finds storable = absurd (some_not_false (finds.there ∙ is))

pub both_true : (a b : Bool) → (a && b) ≡ true → (a ≡ true) × (b ≡ true)
both_true true b e = (refl, e)
both_true false b e = absurd (none_not_true e)

-- a record that has it all
pub replaced_same : (row : RecordRow) (p : Product) (found : FoundRecord) (rows : DeskRows) → has_same_identifiers found ≡ true → has_same_supplies found ≡ true → IsChanged Replace row p found rows rows
replaced_same row p Absent rows ids supplies o h finds storable = absurd (none_not_true ids)
replaced_same row p (Present a b) rows ids supplies None h finds storable = absurd (none_not_true finds.there)
replaced_same row p (Present a b) rows ids supplies (Some e) h finds storable =
    became_itself row.series row.reference (Some (record { ids = p.ids; supplies = p.supplies })) rows (record_stays row e p.ids p.supplies rows h storable.0 storable.1 (finds.same_identifiers ids) (finds.same_supplies supplies))

-- ---- updated

updated_is : (e : Entry) (supplies : List ProductSupply) → (supplies ≡ [] → ⊥) → record e { supplies = supplies } ≡ updated e supplies
updated_is e [] some = absurd (some refl)
updated_is e (s ∷ more) some = refl

pub updated_known : (row : RecordRow) (p : Product) (supplies : List ProductSupply) (found : FoundRecord) (rows after : DeskRows) → supplies ≡ p.supplies → is_there found ≡ true → (p.supplies ≡ [] → ⊥)
    → ((e : Entry) → HoldsEntry row.series row.reference (Some e) rows → AreStorable supplies → Became row.series row.reference (Some (record e { supplies = supplies })) rows after) → IsChanged Update row p found rows after
updated_known row p supplies found rows after own is some f None h finds storable = absurd (none_not_true (finds.there ∙ is))
updated_known row p supplies found rows after own is some f (Some e) h finds storable =
    subst (λ (x : Entry). Became row.series row.reference (Some x) rows after) (ap (λ (l : List ProductSupply). record e { supplies = l }) own ∙ updated_is e p.supplies some) (f e h (subst AreStorable (sym own) storable.1))

pub updated_unknown : (row : RecordRow) (p : Product) (found : FoundRecord) (rows : DeskRows) → is_there found ≡ false → IsChanged Update row p found rows rows
updated_unknown row p found rows is None h finds storable = became_itself row.series row.reference None rows h
updated_unknown row p found rows is (Some e) h finds storable = absurd (some_not_false (finds.there ∙ is))

-- an update without supplies
pub updated_empty : (row : RecordRow) (p : Product) (found : FoundRecord) (rows : DeskRows) → p.supplies ≡ [] → IsChanged Update row p found rows rows
updated_empty row p found rows none None h finds storable = became_itself row.series row.reference None rows h
updated_empty row p found rows none (Some e) h finds storable =
    subst (λ (l : List ProductSupply). Became row.series row.reference (Some (updated e l)) rows rows) (sym none) (became_itself row.series row.reference (Some e) rows h)

-- an update with the supplies that the record has
pub updated_same : (row : RecordRow) (p : Product) (found : FoundRecord) (rows : DeskRows) → has_same_supplies found ≡ true → (p.supplies ≡ [] → ⊥) → IsChanged Update row p found rows rows
updated_same row p Absent rows same some o h finds storable = absurd (none_not_true same)
updated_same row p (Present a b) rows same some None h finds storable = absurd (none_not_true finds.there)
updated_same row p (Present a b) rows same some (Some e) h finds storable =
    subst (λ (x : Entry). Became row.series row.reference (Some x) rows rows) (updated_is e p.supplies some) (became_itself row.series row.reference (Some (record e { supplies = p.supplies })) rows (supplies_stay row e p.supplies rows h storable.1 (finds.same_supplies same)))

-- ---- deleted

pub deleted_unknown : (row : RecordRow) (p : Product) (found : FoundRecord) (rows : DeskRows) → is_there found ≡ false → IsChanged Delete row p found rows rows
deleted_unknown row p found rows is None h finds storable = became_itself row.series row.reference None rows h
deleted_unknown row p found rows is (Some e) h finds storable = absurd (some_not_false (finds.there ∙ is))

-- ---- one product

pub product_applied : (s : List ℕ) (m : ByReference) (p : Product) (row : RecordRow) (change : Change) (found : FoundRecord) (before effect : Effect) (rows after : DeskRows) → row ≡ record_row s p.reference → change ≡ change_of p.notification
    → IsFoundOf s m p found → IsChanged change row p found rows after → ((was : Option Entry) → is_some was ≡ is_there found → effect ≡ counted change was before)
    → HoldsCatalogue s m rows → IsStorableProduct p → IsProductApplied s m p before rows effect after
product_applied s m p row change found before effect rows after is asks finds changed counts held storable =
    let r = p.reference in
    let o = fin.get m r in
    let own = subst (λ (x : Change). IsChanged x row p found rows after) asks changed in
    let became = subst (λ (x : RecordRow). IsChanged (change_of p.notification) x p found rows after) is own o (held r) finds storable in
    record {
      catalogue = catalogue_became s m r (entry_after (change_of p.notification) p o) rows after held became;
      counts = counts o finds.there ∙ ap (λ x. counted x o before) asks;
      others = catalogues_kept s r (entry_after (change_of p.notification) p o) rows after became;
    }
