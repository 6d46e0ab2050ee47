-- What becomes of each ProductSupply, SupplyDetail and Price of a Product.
use Rattle.std.specs.Prelude.{◌≡◌, ℕ, true, List, [], ◌∷◌, ◌++◌, ⊤, codes}
use Rattle.std.specs.List.{AllByRecursion}
use Rattle.feed_outline.specs.Nodes.{Nodes}
use Rattle.onix_records.specs.declared.row.Opening.{Opening}
use Rattle.feed_mapping.specs.Details.{context_in, detail_outcome, price_in, priced_records}
use Rattle.feed_mapping.specs.PriceTexts.{PriceTexts, prices_in}
use Rattle.feed_mapping.specs.Notes.{Reason}
use Rattle.feed_mapping.specs.Outcomes.{Outcome, all_notes, all_records, left_out, notes_below}
use Rattle.feed_mapping.specs.Outcomes.{nothing, outcome_records, written}
use Rattle.feed_mapping.specs.Prices.{PriceContext, is_nothing}
use Rattle.feed_mapping.specs.ProductRecords.{product_notes, product_records, supplies_in}
use Rattle.feed_mapping.specs.SupplyChoices.{SupplyChoices}
use Rattle.feed_mapping.specs.Supplies.{detail_in, details_in, supply_in, supply_outcome}

-- a Price comes to nothing, by the rule, to one record, or to one note that it is left out
abbrev pub IsPrice : PriceContext → PriceTexts → Outcome → Type 0
IsPrice context price nothing = is_nothing context price ≡ true
IsPrice context price (written records notes) =
    (fields : List (List ℕ)) × (records ≡ (codes "Price" ∷ fields) ∷ [])
IsPrice context price (left_out reason) = ⊤

-- a SupplyDetail is written with what its Prices come to, in order
pub record HasPrices (o : Opening) (choices : SupplyChoices) (nodes : Nodes) : Type 0 where
  pub own : List (List ℕ)
  pub records : outcome_records (detail_outcome o choices nodes)
      ≡ own ∷ priced_records o choices.terms choices.preferred nodes
  pub notes : notes_below (detail_outcome o choices nodes)
      ≡ all_notes (price_in o nodes) (prices_in nodes)
  pub each : AllByRecursion (λ p. IsPrice (context_in o nodes) p (price_in o nodes p))
      (prices_in nodes)

-- a ProductSupply is written with what its SupplyDetails come to, in order
pub record HasDetails (o : Opening) (choices : SupplyChoices) (nodes : Nodes) : Type 0 where
  pub own : List (List (List ℕ))
  pub markets : List Reason
  pub records : outcome_records (supply_outcome o choices nodes)
      ≡ own ++ all_records (detail_in o choices) (details_in choices nodes)
  pub notes : notes_below (supply_outcome o choices nodes)
      ≡ markets ++ all_notes (detail_in o choices) (details_in choices nodes)

-- a Product is written with what its ProductSupplys come to, in order
pub record HasSupplies (o : Opening) (choices : SupplyChoices) (nodes : Nodes) : Type 0 where
  pub own : List (List ℕ)
  pub before : List Reason
  pub behind : List Reason
  pub records : product_records o choices nodes
      ≡ own ∷ all_records (supply_in o choices) (supplies_in nodes)
  pub notes : product_notes o choices nodes
      ≡ before ++ (all_notes (supply_in o choices) (supplies_in nodes) ++ behind)
