-- What comes of a message with a table of no term.
use Rattle.std.proofs.Common.{◌≡◌, List, [], ◌∷◌, ◌++◌, Option, Some, None, fold, map, refl}
use Rattle.std.specs.Prelude.{Result, Ok, Err, codes, if◌then◌else◌, is_some, option_map}
use Rattle.std.specs.Option.{option_map_or, option_or}
use Rattle.std.specs.Str.{bytes_eq}
use Rattle.feed_outline.specs.Composites.{has_stranger}
use Rattle.feed_outline.specs.Names.{stranger}
use Rattle.feed_outline.specs.Nodes.{Nodes, no_nodes, node}
use Rattle.onix_records.specs.declared.row.Opening.{Opening}
use Rattle.feed_terms.specs.Laws.{NothingByNoTerms}
use Rattle.feed_terms.specs.declared.term.Term.{Term}
use Rattle.feed_mapping.specs.PriceTexts.{prices_in}
use Rattle.feed_mapping.specs.Details.{context_in, detail_fields, detail_outcome, detail_reason, price_in, supplier_id}
use Rattle.feed_mapping.specs.Elements.{Composite, composite, each_at, first}
use Rattle.feed_mapping.specs.Header.{Heading, heading_in}
use Rattle.feed_mapping.specs.Notes.{Reason, foreign, wrong}
use Rattle.feed_mapping.specs.Outcomes.{Outcome, all_notes, all_records, left_out, nothing, notes_below, outcome_reason, outcome_records, written_unless}
use Rattle.feed_mapping.specs.Parties.{Pair}
use Rattle.feed_mapping.specs.PriceTerms.{all_given, closed_kinds, supplier_of}
use Rattle.feed_mapping.specs.ProductRecords.{Variant, fate_by, notification_written, smaller_variants, supplies_in, variant, variants, written_notes}
use Rattle.feed_mapping.specs.Products.{emptied_record, identifier_notes, own_reason, product_record, reference_in, right_pairs}
use Rattle.feed_mapping.specs.Records.{Records, first_some, if_empty, is_field, option_filter}
use Rattle.feed_mapping.specs.Supplies.{details_in, is_lost, none_left, supply_markets, supply_outcome}
use Rattle.feed_mapping.specs.SupplyChoices.{SupplyChoices}
use Rattle.feed_mapping.specs.declared.header.HeaderRefusal.{HeaderRefusal}
use Rattle.feed_mapping.specs.declared.notes.Foreign.TheVariants as other
use Rattle.feed_mapping.specs.declared.notes.Wrong.TheVariants as bad
use Rattle.feed_mapping.specs.declared.product_records.Fate.{Fate}
use Rattle.feed_mapping.specs.declared.product_records.Fate.TheVariants as fate
use Rattle.feed_conversion.specs.Conversion.{Options, after_header, by_terms, conversion, products_in, refused_behind, settings, supply_choices}
use Rattle.feed_conversion.specs.Packing.{Packing, after_product, ended, no_packing, seen, with_variants}
use Rattle.feed_conversion.specs.declared.refusal.Refusal.TheVariants as why

chosen_by : Option (List Term) → SupplyChoices → SupplyChoices
chosen_by terms choices = record choices { terms = terms }

-- ---- by what a ProductSupply comes to

module _ (supplier : Option Pair) (supply : Nodes → Outcome) where
  reason_by : List Composite → Option Reason
  reason_by supplies =
      if_empty (all_records (λ s. supply s.below) supplies)
      (option_map none_left (first_some (map (λ s. option_filter (λ r. is_lost r.kind) (outcome_reason (supply s.below))) supplies)))

  why_by : Nodes → Option Reason
  why_by nodes = option_or (own_reason supplier nodes) (reason_by (supplies_in nodes))

  records_by : Option Reason → Nodes → Records
  records_by (Some reason) nodes = emptied_record nodes ∷ []
  records_by None nodes = product_record (notification_written supplier nodes) (right_pairs nodes) nodes ∷ all_records (λ s. supply s.below) (supplies_in nodes)

  records_in : Nodes → Records
  records_in nodes = if is_field (reference_in nodes) then records_by (why_by nodes) nodes else []

  notes_in : Nodes → List Reason
  notes_in nodes =
      if is_field (reference_in nodes)
      then identifier_notes nodes
      ++ option_map_or (λ reason. reason ∷ [])
      (own_reason supplier nodes)
      (all_notes (λ s. supply s.below) (supplies_in nodes) ++ option_map_or (λ reason. reason ∷ []) (reason_by (supplies_in nodes)) (written_notes supplier nodes))
      else wrong bad.RecordReference (reference_in nodes) ∷ []

  fate_in : Nodes → Fate
  fate_in nodes = if is_field (reference_in nodes) then fate_by (why_by nodes) else fate.LeftOut

  variants_in : Nodes → List Variant
  variants_in nodes = variant (records_in nodes) (notes_in nodes) ∷ smaller_variants (fate_in nodes) (notes_in nodes) nodes

module _ (by_none : NothingByNoTerms) (o : Opening) (choices : SupplyChoices) where
  details_same : detail_outcome o (chosen_by (Some []) choices) ≡ detail_outcome o (chosen_by None choices)
  unfolding chosen_by
  details_same =
      λ i nodes. written_unless (detail_reason choices.preferred nodes)
      ((codes "SupplyDetail" ∷ detail_fields choices.preferred nodes)
      ∷ by_none (supplier_of (supplier_id choices.preferred nodes)) (closed_kinds (context_in o nodes) (prices_in nodes)) (all_given (context_in o nodes) (prices_in nodes))
      (all_records (price_in o nodes) (prices_in nodes)) i)
      (all_notes (price_in o nodes) (prices_in nodes))

  supplies_same : supply_outcome o (chosen_by (Some []) choices) ≡ supply_outcome o (chosen_by None choices)
  unfolding chosen_by
  supplies_same =
      λ i nodes.
      let records = all_records (λ c. details_same i c.below) (details_in choices nodes) in
      if is_some (first (details_in choices nodes))
      then written_unless (first_some (outcome_reason (supply_markets nodes) ∷ if_empty records (Some (wrong bad.NoDetailLeft [])) ∷ []))
      (outcome_records (supply_markets nodes) ++ records)
      (notes_below (supply_markets nodes) ++ all_notes (λ c. details_same i c.below) (details_in choices nodes))
      else if is_some (first (each_at "SupplyDetail" nodes)) then nothing
      else left_out (foreign other.NoSupplyDetail [])

  variants_same : (nodes : Nodes) → variants o (chosen_by (Some []) choices) nodes ≡ variants o (chosen_by None choices) nodes
  unfolding chosen_by variants_in fate_in notes_in records_in records_by why_by reason_by
  variants_same nodes = λ i. variants_in choices.supplier (supplies_same i) nodes

-- ---- the message

module _ (by_none : NothingByNoTerms) (o : Options) where
  product_same : (h : Heading) (header : Nodes) (w : Packing) (c : Composite)
      → after_product (settings (by_terms (Some []) o) h header) w c ≡ after_product (settings (by_terms None o) h header) w c
  unfolding chosen_by
  product_same h header w c =
      let t = settings (by_terms None o) h header in
      λ i. with_variants t (seen t w c) c (variants_same by_none h.opening (supply_choices (by_terms None o)) c.below i)

  header_same : (header : Composite) (rest : Nodes) (r : Result Heading HeaderRefusal)
      → after_header (by_terms (Some []) o) header rest r ≡ after_header (by_terms None o) header rest r
  header_same header rest (Err refusal) = refl
  header_same header rest (Ok h) =
      λ i. option_map_or Err (refused_behind rest)
      (ended (settings (by_terms None o) h header.below) (fold (λ w c. product_same h header.below w c i) no_packing (products_in rest)))

  pub conversion-same : (nodes : Nodes) → conversion (by_terms (Some []) o) nodes ≡ conversion (by_terms None o) nodes
  conversion-same no_nodes = refl
  conversion-same (node name tag text below rest) =
      λ i.
      if bytes_eq name (codes "Header")
      then (if has_stranger below then Err (why.OtherNamespace tt)
      else header_same (composite name tag text below) rest (heading_in o.choices below) i)
      else if bytes_eq name (codes "Product") then Err (why.NoHeader (Some tt))
      else if bytes_eq name stranger then Err (why.OtherNamespace tt)
      else conversion-same rest i
