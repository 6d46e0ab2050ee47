-- Which SupplyDetails are of another supplier than the one that is named: they are as absent.
use Rattle.std.specs.Prelude.{Bool, false, not, ◌&&◌, ◌||◌, List, Option, Some, None}
use Rattle.std.specs.Prelude.{codes, filter, is_some}
use Rattle.std.specs.List.{list_any}
use Rattle.feed_xml.specs.Grammar.{is_filled}
use Rattle.feed_outline.specs.Nodes.{Nodes}
use Rattle.feed_mapping.specs.Elements.{Composite, below_at, each_at, first, text_at}
use Rattle.feed_mapping.specs.Identifiers.{identifiers_in}
use Rattle.feed_mapping.specs.Parties.{Pair, same_pair}

-- the identifiers of a supplier
abbrev pub supplier_ids : Nodes → List Pair
supplier_ids supplier =
    identifiers_in (codes "SupplierIdentifier") (codes "SupplierIDType") supplier

-- whether a Supplier says who it is, by an identifier or a name
abbrev pub says_who : Nodes → Bool
says_who supplier =
    is_some (first (supplier_ids supplier)) || is_filled (text_at "SupplierName" supplier)

-- whether a SupplyDetail is of another than the supplier that is named, by its first Supplier: one
-- that does not say who it is is nobody, and its SupplyDetail counts
abbrev pub is_of_other : Option Pair → Nodes → Bool
is_of_other None detail = false
is_of_other (Some named) detail =
    says_who (below_at "Supplier" detail)
    && not (list_any (same_pair named) (supplier_ids (below_at "Supplier" detail)))

module _ (named : Option Pair) where
  -- the SupplyDetails of a ProductSupply that count
  abbrev pub own_details : Nodes → List Composite
  own_details supply = filter (λ d. not (is_of_other named d.below)) (each_at "SupplyDetail" supply)

  -- whether a Product has a SupplyDetail that counts
  abbrev pub has_own_detail : Nodes → Bool
  has_own_detail product =
      list_any (λ s. is_some (first (own_details s.below))) (each_at "ProductSupply" product)

-- whether a Product has SupplyDetails, and all of them are of others
abbrev pub is_of_others : Option Pair → Nodes → Bool
is_of_others named product = has_own_detail None product && not (has_own_detail named product)
