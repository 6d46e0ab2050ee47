-- A draft: the part of a message that was read so far, and how a row is added.
use Rattle.std.specs.Prelude.{ℕ, List, [], ◌∷◌, ◌++◌, ◌≡◌, Bool, true, false, ⊤, Option, None, Some}
use Rattle.std.specs.Prelude.{Result, Ok, Err}
use Rattle.std.specs.List.{AllByRecursion, flat_map}
use Rattle.onix_records.specs.Grammar.{is_counted, may_follow}
use Rattle.onix_records.specs.PartRows.{SuppliesHaveDetails, detail_rows, product_rows, supply_rows}
use Rattle.onix_records.specs.declared.draft.Draft.{Draft}
use Rattle.onix_records.specs.declared.draft.Part.{Part}
use Rattle.onix_records.specs.declared.draft.Part.TheVariants as part
use Rattle.onix_records.specs.declared.parts.Product.{Product}
use Rattle.onix_records.specs.declared.parts.ProductSupply.{ProductSupply}
use Rattle.onix_records.specs.declared.parts.SupplyDetail.{SupplyDetail}
use Rattle.onix_records.specs.declared.row.Row.{Row}
use Rattle.onix_records.specs.declared.row.Row.TheVariants as row
use Rattle.onix_records.specs.declared.row.RowFault.{RowFault}
use Rattle.onix_records.specs.declared.row.RowFault.TheVariants as fault

-- the rows of a supply that stands open, with the detail that stands open in it
abbrev pub open_rows : ProductSupply → Option SupplyDetail → List Row
open_rows s None = supply_rows s
open_rows s (Some d) = supply_rows s ++ detail_rows d

-- the rows of what stands open
abbrev pub part_rows : Part → List Row
part_rows part.Nothing = []
part_rows (part.InProduct p) = product_rows p
part_rows (part.InSupply p s o) = product_rows p ++ open_rows s o
part_rows (part.Ended n) = row.EndMessage n ∷ []

-- the rows after the first, so far
abbrev pub draft_rows : Draft → List Row
draft_rows d = flat_map product_rows d.products ++ part_rows d.part

-- what may come next
abbrev pub allows : Part → Row → Bool
allows part.Nothing (row.Product p) = true
allows part.Nothing (row.EndMessage n) = true
allows (part.InProduct p) (row.Product q) = true
allows (part.InProduct p) (row.ProductSupply s) = true
allows (part.InProduct p) (row.EndMessage n) = true
allows (part.InSupply p s None) (row.SupplyDetail d) = true
allows (part.InSupply p s (Some d)) (row.Price q) = true
allows (part.InSupply p s (Some d)) (row.SupplyDetail e) = true
allows (part.InSupply p s (Some d)) (row.ProductSupply t) = true
allows (part.InSupply p s (Some d)) (row.Product q) = true
allows (part.InSupply p s (Some d)) (row.EndMessage n) = true
allows _ _ = false

-- the parts that are closed have their details
abbrev pub PartHasDetails : Part → Type 0
PartHasDetails part.Nothing = ⊤
PartHasDetails (part.InProduct p) = SuppliesHaveDetails p
PartHasDetails (part.InSupply p s o) = SuppliesHaveDetails p
PartHasDetails (part.Ended n) = ⊤

-- each supply of a draft has a SupplyDetail, but for the one that stands open
abbrev pub DraftHasDetails : Draft → Type 0
DraftHasDetails d = AllByRecursion SuppliesHaveDetails d.products × PartHasDetails d.part

-- whether the last row was an end
abbrev pub has_ended : Part → Bool
has_ended (part.Ended n) = true
has_ended _ = false

-- one row was added
pub record Adds (old : Draft) (r : Row) (new : Draft) : Type 0 where
  pub rows : draft_rows new ≡ draft_rows old ++ r ∷ []
  pub allowed : allows old.part r ≡ true
  pub next : (y : Row) → allows new.part y ≡ may_follow r y
  pub details : DraftHasDetails new

-- why a row was not added
abbrev pub Refuses : Draft → Row → RowFault → Type 0
Refuses old r fault.Wrong = allows old.part r ≡ false
Refuses old r fault.Memory = ⊤

-- closing to a product is refused if no supply may come
abbrev pub RefusesSupply : Part → RowFault → Type 0
RefusesSupply o fault.Wrong = (s : ProductSupply) → allows o (row.ProductSupply s) ≡ false
RefusesSupply o fault.Memory = ⊤

-- closing all products is refused if neither a product nor the end may come
abbrev pub RefusesProduct : Part → RowFault → Type 0
RefusesProduct o fault.Wrong =
    ((p : Product) → allows o (row.Product p) ≡ false)
    × ((n : ℕ) → allows o (row.EndMessage n) ≡ false)
RefusesProduct o fault.Memory = ⊤

-- a product or the end may come
abbrev pub AllowsProduct : Part → Type 0
AllowsProduct o =
    ((p : Product) → allows o (row.Product p) ≡ true)
    × ((n : ℕ) → allows o (row.EndMessage n) ≡ true)

-- the row that was found was added
pub record Takes (found : Option Row) (old : Draft) (before : ℕ) (new : Draft) : Type 0 where
  pub added : Row
  pub reads : found ≡ Some added
  pub counted : is_counted added before ≡ true
  pub adds : Adds old added new

-- why no row was added
abbrev pub Stops : Option Row → Draft → ℕ → RowFault → Type 0
Stops found old before fault.Wrong =
    (r : Row) → found ≡ Some r → is_counted r before ≡ true → allows old.part r ≡ true → ⊥
Stops found old before fault.Memory = ⊤

-- a row was added if one was found that may come next
abbrev pub Steps : Result (Unit {0}) RowFault → Option Row → Draft → ℕ → Draft → Type 0
Steps (Ok u) found old before new = Takes found old before new
Steps (Err e) found old before new = Stops found old before e
