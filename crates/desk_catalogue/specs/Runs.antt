-- Runs of new records, and what some of a message's products do.
use Rattle.std.specs.Prelude.{◌≡◌, ℕ, ◌+◌, ◌<◌, ◌≤◌, ◌&&◌, not, Bool, true, false, List, [], ◌∷◌, Option, None, Some, get_or, take, if◌then◌else◌, ⊤}
use Rattle.std.specs.FinMap as map
use Rattle.std.specs.List.{All}
use Rattle.std.specs.Option.{is_some}
use Rattle.onix_records.specs.declared.parts.Product.{Product}
use Rattle.catalogue_rules.specs.Effects.{after as after_all, after_product, change_of, effect_from}
use Rattle.catalogue_rules.specs.Plans.{total}
use Rattle.catalogue_rules.specs.Records.{ByReference}
use Rattle.catalogue_rules.specs.declared.change.Change.{Change}
use Rattle.catalogue_rules.specs.declared.change.Change.TheVariants.{Replace}
use Rattle.onix_records.specs.declared.effects.Effect.{Effect}
use Rattle.desk_tables.specs.Rows.{DeskRows}
use Rattle.desk_catalogue.specs.AppliedProducts.{IsCatalogueReadAs, IsProductApplied}
use Rattle.desk_catalogue.specs.EntryRows.{record_row}
use Rattle.desk_catalogue.specs.Holding.{HoldsCatalogue, other_catalogues}
use Rattle.desk_catalogue.specs.ReadRows.{IsFound}
use Rattle.desk_catalogue.specs.Storable.{IsStorableProduct}
use Rattle.desk_catalogue.specs.declared.record_rows.FoundRecord.{FoundRecord}
use Rattle.desk_catalogue.specs.declared.runs.Run.{Run}
use Rattle.desk_catalogue.specs.declared.messages.Step.{Step}

-- ---- new records

-- the whole record is brought
abbrev pub is_replace : Change → Bool
is_replace Replace = true
is_replace _ = false

abbrev pub is_replaced : Product → Bool
is_replaced p = is_replace (change_of p.notification)

-- the product brings the whole record, and none is there
abbrev pub brings_new : Product → Bool → Bool
brings_new p there = is_replaced p && not there

-- the product brings a record that the catalogue does not have
pub record IsNew (m : ByReference) (p : Product) : Type 0 where
  pub replaces : is_replaced p ≡ true
  pub absent : map.get m p.reference ≡ None

-- each of the products does, after those before it
abbrev pub AreNew : ByReference → List Product → Type 0
AreNew m [] = ⊤
AreNew m (p ∷ rest) = IsNew m p × AreNew (after_product m p) rest

-- that was found of the record of the product in a catalogue of the series
abbrev pub IsFoundOf : List ℕ → ByReference → Product → FoundRecord → Type 0
IsFoundOf series m p found = IsFound (record_row series p.reference) p (map.get m p.reference) found

-- how many products end a run
abbrev pub ended : Option FoundRecord → ℕ
ended found = if is_some found then 1 else 0

-- the run begins the products, and that was found of the one that ends it
pub record BeginsIn (series : List ℕ) (m : ByReference) (products : List Product) (run : Run)
    : Type 0 where
  pub new : AreNew m (take run.count products)
  pub next : (p : Product) (found : FoundRecord) → p ≡ get_or products run.count p
      → run.found ≡ Some found → IsFoundOf series (after_all m (take run.count products)) p found

-- it does so in the catalogue of the series, where prices are read so
abbrev pub BeginsWith : Bool → List ℕ → List Product → DeskRows → Run → Type 0
BeginsWith with_minimums series products rows run = (m : ByReference)
    → HoldsCatalogue series m rows → IsCatalogueReadAs with_minimums m
    → BeginsIn series m products run

-- ---- applied

-- some of so many products are applied, and each is counted
pub record IsStep (was many : ℕ) (step : Step) : Type 0 where
  pub some : 0 < step.count
  pub within : step.count ≤ many
  pub counted : total step.effect ≡ was + step.count

-- the rows of the series became those of the catalogue after the products, which are counted, and
-- all others stayed
pub record AreApplied (series : List ℕ) (m : ByReference) (products : List Product)
    (before : Effect) (rows : DeskRows) (effect : Effect) (after : DeskRows) : Type 0 where
  pub catalogue : HoldsCatalogue series (after_all m products) after
  pub counts : effect ≡ effect_from before m products
  pub others : other_catalogues series after ≡ other_catalogues series rows

-- the products, which are new records
abbrev pub AppliesRun : List ℕ → List Product → Effect → DeskRows → Effect → DeskRows → Type 0
AppliesRun series products before rows effect after =
    (m : ByReference) → HoldsCatalogue series m rows → AreNew m products
    → All IsStorableProduct products → AreApplied series m products before rows effect after

-- the product, of whose record that was found
abbrev pub AppliesFound : List ℕ → Product → FoundRecord → Effect → DeskRows → Effect → DeskRows
    → Type 0
AppliesFound series p found before rows effect after =
    (m : ByReference) → HoldsCatalogue series m rows → IsStorableProduct p
    → IsFoundOf series m p found → IsProductApplied series m p before rows effect after

-- the first of the products, as many as the step has, where prices are read so
abbrev pub AppliesSome : Bool → List ℕ → List Product → Effect → DeskRows → Step → DeskRows → Type 0
AppliesSome with_minimums series products before rows step after =
    (m : ByReference) → HoldsCatalogue series m rows → IsCatalogueReadAs with_minimums m
    → All IsStorableProduct products
    → AreApplied series m (take step.count products) before rows step.effect after
