-- A SupplyDetail: the records that are written of it and of its Prices.
use Rattle.std.specs.Prelude.{ℕ, List, [], ◌∷◌, Option, None, if◌then◌else◌}
use Rattle.std.specs.Prelude.{codes, is_some, map}
use Rattle.std.specs.Prelude.{option_map}
use Rattle.std.specs.Option.{option_or, unwrap_or}
use Rattle.feed_xml.specs.Grammar.{is_filled}
use Rattle.feed_outline.specs.Nodes.{Nodes}
use Rattle.onix_terms.specs.Code.{code2_of}
use Rattle.onix_terms.specs.Quantity.{quantity_of}
use Rattle.onix_records.specs.Detail.{detail_of}
use Rattle.onix_records.specs.Fields.{optional}
use Rattle.onix_records.specs.declared.row.Opening.{Opening}
use Rattle.feed_mapping.specs.Elements.{below_at, each_at, some_at, text_at}
use Rattle.feed_mapping.specs.Identifiers.{chosen, identifiers_in}
use Rattle.feed_terms.specs.declared.term.Term.{Term}
use Rattle.feed_mapping.specs.Notes.{Reason, Reasons, wrong}
use Rattle.feed_mapping.specs.Outcomes.{Outcome, all_notes, written_unless}
use Rattle.feed_mapping.specs.Parties.{Pair, is_there, pair}
use Rattle.feed_mapping.specs.PriceTerms.{priced_by}
use Rattle.feed_mapping.specs.PriceTexts.{PriceTexts, first_with_text, prices_in}
use Rattle.feed_mapping.specs.Prices.{PriceContext, closing_kinds, firsts_in, price_outcome}
use Rattle.feed_mapping.specs.SupplyChoices.{SupplyChoices}
use Rattle.feed_mapping.specs.Records.{Fields, Records, desk_reason, first_some, is_field, option_filter}
use Rattle.feed_mapping.specs.Records.{parsed}
use Rattle.feed_mapping.specs.Records.{parsed_term, unless, invalid}
use Rattle.feed_mapping.specs.declared.narrower.First.{First}
use Rattle.feed_mapping.specs.declared.notes.Wrong.TheVariants as bad
use Rattle.feed_terms.specs.declared.price.Kind.{Kind}

-- the UnpricedItemType of a Price without an amount, where it is a code
abbrev pub unpriced_price : Nodes → Option (List ℕ)
unpriced_price nodes =
    if is_some (some_at "PriceAmount" nodes) then None
    else option_filter (λ text. is_some (parsed_term code2_of text))
    (some_at "UnpricedItemType" nodes)

module _ (nodes : Nodes) where
  -- what stands in the Supplier
  abbrev pub supplier_in : Nodes
  supplier_in = below_at "Supplier" nodes

  -- the UnpricedItemType of a SupplyDetail, else the first code of its Prices that have no amount
  abbrev pub unpriced_in : Option (List ℕ)
  unpriced_in =
      option_or (some_at "UnpricedItemType" nodes)
      (first_some (map (λ c. unpriced_price c.below) (each_at "Price" nodes)))

  -- the name of the first of the elements of ONIX 2.1 that say where a SupplyDetail holds
  abbrev pub old_supply : Option (List ℕ)
  old_supply =
      first_with_text nodes (codes "SupplyToCountry" ∷ codes "SupplyToRegion"
      ∷ codes "SupplyToCountryExcluded" ∷ codes "SupplyToTerritory" ∷ [])

-- an identifier has a type, and a value that the desk takes; without one there is a name
abbrev pub identifier_reasons : Pair → List ℕ → Reasons
identifier_reasons i name =
    if is_there i
    then invalid (parsed_term code2_of) bad.SupplierType i.id_type
    ∷ unless (is_field i.id_value) bad.SupplierValue i.id_value ∷ []
    else unless (is_filled name) bad.Supplier [] ∷ []

-- a name of the supplier that the desk would not take
abbrev pub name_reason : List ℕ → Option Reason
name_reason name = if is_filled name then unless (is_field name) bad.SupplierName name else None

module _ (preferred : List ℕ) (nodes : Nodes) where
  -- the identifier of the supplier: the first of the preferred type, else the first
  abbrev pub supplier_id : Pair
  supplier_id =
      unwrap_or (chosen preferred (identifiers_in (codes "SupplierIdentifier")
      (codes "SupplierIDType") (supplier_in nodes))) (pair [] [])

  -- The fields of a SupplyDetail behind its name, each as it stands, and empty where it is absent:
  -- role, identifier and name of the supplier, availability, UnpricedItemType.
  abbrev pub detail_fields : Fields
  detail_fields =
      text_at "SupplierRole" (supplier_in nodes) ∷ supplier_id.id_type ∷ supplier_id.id_value
      ∷ text_at "SupplierName" (supplier_in nodes) ∷ text_at "ProductAvailability" nodes
      ∷ unwrap_or (unpriced_in nodes) [] ∷ []

  -- which fields of a SupplyDetail the desk does not take, each where it does not
  abbrev pub detail_reasons : Reasons
  detail_reasons =
      invalid (parsed_term code2_of) bad.SupplierRole (text_at "SupplierRole" (supplier_in nodes))
      ∷ first_some (identifier_reasons supplier_id (text_at "SupplierName" (supplier_in nodes)))
      ∷ name_reason (text_at "SupplierName" (supplier_in nodes))
      ∷ invalid (parsed_term code2_of) bad.Availability (text_at "ProductAvailability" nodes)
      ∷ invalid (optional (parsed_term code2_of)) bad.Unpriced (unwrap_or (unpriced_in nodes) [])
      ∷ []

  -- why the desk would not take the record of a SupplyDetail, where it would not
  abbrev pub field_reason : Option Reason
  field_reason =
      desk_reason (is_some (parsed detail_of detail_fields)) detail_reasons bad.SupplyDetail

  -- why a SupplyDetail is left out, where it is
  abbrev pub detail_reason : Option Reason
  detail_reason = option_or (option_map (wrong bad.OldElement) (old_supply nodes)) field_reason

module _ (o : Opening) where
  -- the context of the Prices of a SupplyDetail, by what closes them, and what goes before them;
  -- its OrderQuantityMinimum counts where it is a quantity
  abbrev pub context_by : List Kind → List First → Nodes → PriceContext
  context_by closed firsts nodes = record {
    opening = o;
    is_unpriced = is_some (unpriced_in nodes);
    minimum = option_filter (λ text. is_some (parsed_term quantity_of text))
        (some_at "OrderQuantityMinimum" nodes);
    closed = closed;
    firsts = firsts;
  }

  -- the context of the Prices of a SupplyDetail: those close others that would be written but for
  -- their PriceDates
  abbrev pub context_in : Nodes → PriceContext
  context_in nodes =
      context_by (closing_kinds (context_by [] [] nodes) (prices_in nodes))
      (firsts_in (context_by [] [] nodes) (prices_in nodes)) nodes

  -- what a Price of a SupplyDetail with these elements comes to
  abbrev pub price_in : Nodes → PriceTexts → Outcome
  price_in nodes = price_outcome (context_in nodes)

  -- the records of the Prices of a SupplyDetail, with those that the terms compute, where there are
  -- terms
  abbrev pub priced_records : Option (List Term) → List ℕ → Nodes → Records
  priced_records terms preferred nodes =
      priced_by terms (supplier_id preferred nodes) (context_in nodes) (prices_in nodes)

  -- what a SupplyDetail comes to: its record with those of its Prices, or it is left out
  abbrev pub detail_outcome : SupplyChoices → Nodes → Outcome
  detail_outcome choices nodes =
      written_unless (detail_reason choices.preferred nodes)
      ((codes "SupplyDetail" ∷ detail_fields choices.preferred nodes)
      ∷ priced_records choices.terms choices.preferred nodes)
      (all_notes (price_in nodes) (prices_in nodes))
