use Rattle.std.proofs.Common.{◌≡◌, ◌++◌, length}
use Rattle.std.specs.Option.{option_or}
use Rattle.feed_mapping.specs.Notes.{note_views}
use Rattle.feed_mapping.specs.PriceViews.{reason_read}
use Rattle.std.specs.Prelude.{codes}
use Rattle.feed_mapping.specs.Elements.{composites}
use Rattle.feed_mapping.specs.Outcomes.{all_notes, all_records}
use Rattle.feed_mapping.specs.SupplyChoices.{supply_choices_view}
use Rattle.feed_mapping.specs.Supplies.{first_lost, supply_in}
use Rattle.feed_mapping.proofs.supplies.add_each.Given as goal

abbrev pub invariant-loop-supply : goal.invariant-loop-supply
invariant-loop-supply l = record {
  records : l.records ++ all_records (supply_in l.opening (supply_choices_view l.choices)) (composites (codes "ProductSupply") l.rest)
      ≡ l.initial.records ++ all_records (supply_in l.opening (supply_choices_view l.choices)) (composites (codes "ProductSupply") l.elements);
  notes : note_views l.notes.items ++ all_notes (supply_in l.opening (supply_choices_view l.choices)) (composites (codes "ProductSupply") l.rest)
      ≡ note_views l.initial.notes.items ++ all_notes (supply_in l.opening (supply_choices_view l.choices)) (composites (codes "ProductSupply") l.elements);
  lost : option_or (reason_read l.lost) (first_lost l.opening (supply_choices_view l.choices) (composites (codes "ProductSupply") l.rest))
      ≡ first_lost l.opening (supply_choices_view l.choices) (composites (codes "ProductSupply") l.elements);
}

abbrev pub decreases-loop-supply : goal.decreases-loop-supply
decreases-loop-supply l = length (composites (codes "ProductSupply") l.rest)
