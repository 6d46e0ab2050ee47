-- What the terms of the shop change of the records of a SupplyDetail.
use Rattle.std.specs.Prelude.{◌≡◌, ℕ, List, Some, None, map, length}
use Rattle.feed_outline.specs.Nodes.{Nodes}
use Rattle.onix_records.specs.Row.{row_of}
use Rattle.onix_records.specs.declared.parts.Price.{Price}
use Rattle.onix_records.specs.declared.row.Opening.{Opening}
use Rattle.onix_records.specs.declared.row.Row.TheVariants as row
use Rattle.price_rules.specs.Price.{IsCurrent}
use Rattle.price_rules.specs.declared.offer.Offer.{Offer}
use Rattle.price_rules.specs.declared.offer.PriceQuery.{PriceQuery}
use Rattle.feed_terms.specs.HeldBack.{is_held_back}
use Rattle.feed_terms.specs.Laws.{less_behind}
use Rattle.feed_terms.specs.WithTerms.{written_of}
use Rattle.feed_terms.specs.declared.term.Term.{Term}
use Rattle.feed_mapping.specs.Details.{context_in, priced_records, supplier_id}
use Rattle.feed_mapping.specs.PriceTexts.{prices_in}
use Rattle.feed_mapping.specs.PriceTerms.{all_given, closed_kinds, supplier_of}

-- the desk reads these prices of records
abbrev pub AreRead : Opening → List (List (List ℕ)) → List Price → Type 0
AreRead o records prices = map (row_of o) records ≡ map Some (map row.Price prices)

module _ (o : Opening) (terms : List Term) (preferred : List ℕ) (nodes : Nodes) where
  -- how many prices are computed of each Price that is written
  abbrev pub computed_counts : List ℕ
  computed_counts =
      let given = all_given (context_in o nodes) (prices_in nodes) in
      map (λ g. length (written_of terms (supplier_of (supplier_id preferred nodes))
      (is_held_back terms (supplier_of (supplier_id preferred nodes)) given
      (closed_kinds (context_in o nodes) (prices_in nodes))) g)) given

  -- the records less the computed ones behind each are those without terms
  abbrev pub IsAdded : Type 0
  IsAdded =
      less_behind computed_counts (priced_records o (Some terms) preferred nodes)
      ≡ priced_records o None preferred nodes

  -- of the offer that the desk makes of the records, a price that holds without terms does so with
  -- them
  abbrev pub GivenStands : Type 0
  GivenStands =
      (offer : Offer) (with_computed : List Price) (q : PriceQuery) (amount : ℕ)
      → AreRead o (priced_records o None preferred nodes) offer.prices
      → AreRead o (priced_records o (Some terms) preferred nodes) with_computed
      → IsCurrent offer q (Some amount)
      → IsCurrent (record offer { prices = with_computed }) q (Some amount)
