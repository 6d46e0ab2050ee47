-- What a Product comes to: the records of it and of its supplies, and the notes on it.
use Rattle.std.specs.Prelude.{ℕ, Bool, not, ◌&&◌, List, [], ◌∷◌, ◌++◌, if◌then◌else◌}
use Rattle.std.specs.Prelude.{Option, Some, None, is_some}
use Rattle.std.specs.List.{list_any}
use Rattle.std.specs.Option.{option_map_or, option_or}
use Rattle.feed_outline.specs.Nodes.{Nodes}
use Rattle.onix_records.specs.declared.row.Opening.{Opening}
use Rattle.feed_mapping.specs.Elements.{Composite, each_at}
use Rattle.feed_mapping.specs.Notes.{Reason, foreign, is_wrong, wrong}
use Rattle.feed_mapping.specs.OtherSuppliers.{is_of_others}
use Rattle.feed_mapping.specs.Outcomes.{all_notes, all_records}
use Rattle.feed_mapping.specs.Parties.{Pair}
use Rattle.feed_mapping.specs.Products.{bare_record, dropping, emptied_record}
use Rattle.feed_mapping.specs.Products.{identifier_notes, is_deletion, notification_in, own_reason}
use Rattle.feed_mapping.specs.Products.{product_record, reference_in, right_pairs}
use Rattle.feed_mapping.specs.Records.{Records, is_field}
use Rattle.feed_mapping.specs.SupplyChoices.{SupplyChoices}
use Rattle.feed_mapping.specs.Supplies.{supplies_reason, supply_in}
use Rattle.feed_mapping.specs.declared.notes.Foreign.TheVariants as other
use Rattle.feed_mapping.specs.declared.notes.Wrong.TheVariants as bad
use Rattle.feed_mapping.specs.declared.product_records.Fate.{Fate}
use Rattle.feed_mapping.specs.declared.product_records.Fate.TheVariants as fate

module _ (nodes : Nodes) where
  -- its ProductSupplys: nothing below a deletion is looked at but its identifiers
  abbrev pub supplies_in : List Composite
  supplies_in = if is_deletion nodes then [] else each_at "ProductSupply" nodes

module _ (supplier : Option Pair) (nodes : Nodes) where
  -- of other suppliers alone: it has SupplyDetails, and all of them are of others
  abbrev pub is_alone : Bool
  is_alone = is_some supplier && not (is_deletion nodes) && is_of_others supplier nodes

  -- that it is of others alone, where its own fields do not empty it
  abbrev pub written_notes : List Reason
  written_notes = if is_alone then foreign other.OfOthers [] ∷ [] else []

  -- the NotificationType of one that stands: of one of other suppliers alone it is such that the
  -- desk drops the supplies that it has
  abbrev pub notification_written : List ℕ
  notification_written =
      if is_alone then dropping (notification_in nodes) else notification_in nodes

-- whether it is emptied for such a reason or stands
abbrev pub fate_by : Option Reason → Fate
fate_by None = fate.Written
fate_by (Some reason) = fate.Emptied

module _ (o : Opening) (choices : SupplyChoices) where
  -- why a Product is emptied, but for its size: for its own fields, or since none of its supplies
  -- is left
  abbrev pub why_emptied : Nodes → Option Reason
  why_emptied nodes =
      option_or (own_reason choices.supplier nodes) (supplies_reason o choices (supplies_in nodes))

  -- its records, where it is emptied for such a reason or stands
  abbrev pub records_by : Option Reason → Nodes → Records
  records_by (Some reason) nodes = emptied_record nodes ∷ []
  records_by None nodes =
      product_record (notification_written choices.supplier nodes) (right_pairs nodes) nodes
      ∷ all_records (supply_in o choices) (supplies_in nodes)

  -- its records: none of one without a RecordReference that the desk would take
  abbrev pub product_records : Nodes → Records
  product_records nodes =
      if is_field (reference_in nodes) then records_by (why_emptied nodes) nodes else []

  -- the notes on its supplies and on itself, where its own fields do not empty it
  abbrev pub notes_behind : Nodes → List Reason
  notes_behind nodes =
      all_notes (supply_in o choices) (supplies_in nodes)
      ++ option_map_or (λ reason. reason ∷ []) (supplies_reason o choices (supplies_in nodes))
      (written_notes choices.supplier nodes)

  -- all notes on it
  abbrev pub product_notes : Nodes → List Reason
  product_notes nodes =
      if is_field (reference_in nodes)
      then identifier_notes nodes
      ++ option_map_or (λ reason. reason ∷ []) (own_reason choices.supplier nodes)
      (notes_behind nodes)
      else wrong bad.RecordReference (reference_in nodes) ∷ []

  -- whether it is written as it stands, emptied or left out
  abbrev pub fate_of : Nodes → Fate
  fate_of nodes =
      if is_field (reference_in nodes) then fate_by (why_emptied nodes) else fate.LeftOut

-- ---- one that is too large for a message

-- the notes on a product that would be written but for its size
abbrev pub too_large_notes : Nodes → List Reason
too_large_notes nodes = identifier_notes nodes ++ wrong bad.TooLarge [] ∷ []

-- a variant of what is written of a product: its records, and the notes on it then
pub record Variant : Type 0 where
  pub records : Records
  pub notes : List Reason

abbrev pub variant : Records → List Reason → Variant
variant records notes = record { records = records; notes = notes }

-- a product without supplies, whose reference stands for its identifiers
abbrev pub smallest_variant : Nodes → List Reason → Variant
smallest_variant nodes notes = variant (bare_record nodes ∷ []) notes

-- the variants of a product that is too large with these notes: one that is emptied for another
-- reason than its size has the notes that it has without
abbrev pub smaller_variants : Fate → List Reason → Nodes → List Variant
smaller_variants fate.Written notes nodes = smallest_variant nodes (too_large_notes nodes) ∷ []
smaller_variants fate.Emptied notes nodes = smallest_variant nodes notes ∷ []
smaller_variants fate.LeftOut notes nodes = []

-- The variants of a product, of which the first counts that is not too large for a message: as it
-- is, and emptied with its reference in place of its identifiers.
abbrev pub variants : Opening → SupplyChoices → Nodes → List Variant
variants o choices nodes =
    variant (product_records o choices nodes) (product_notes o choices nodes)
    ∷ smaller_variants (fate_of o choices nodes) (product_notes o choices nodes) nodes

-- whether one of some notes says that something is wrong
abbrev pub has_wrong : List Reason → Bool
has_wrong notes = list_any (λ r. is_wrong r.kind) notes
