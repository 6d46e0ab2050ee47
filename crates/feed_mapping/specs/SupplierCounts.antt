-- Whether a Product has SupplyDetails of the supplier that is named, and of others.
use Rattle.std.specs.Prelude.{Bool, false, if◌then◌else◌, Option, Some, None}
use Rattle.std.specs.List.{list_any}
use Rattle.feed_outline.specs.Nodes.{Nodes}
use Rattle.feed_mapping.specs.Elements.{below_at, each_at}
use Rattle.feed_mapping.specs.OtherSuppliers.{is_of_other, supplier_ids}
use Rattle.feed_mapping.specs.Parties.{Pair, same_pair}
use Rattle.feed_mapping.specs.ProductRecords.{supplies_in}

-- whether a SupplyDetail is of another than the supplier that is named, by its first Supplier, or
-- else, of that one
abbrev pub is_such : Pair → Bool → Nodes → Bool
is_such named of_other detail =
    if of_other then is_of_other (Some named) detail
    else list_any (same_pair named) (supplier_ids (below_at "Supplier" detail))

-- whether one of the SupplyDetails of a Product is such: a deletion has none
abbrev pub has_detail : Option Pair → Bool → Nodes → Bool
has_detail None of_other product = false
has_detail (Some named) of_other product =
    list_any (λ s. list_any (λ d. is_such named of_other d.below) (each_at "SupplyDetail" s.below))
    (supplies_in product)
