use Rattle.std.proofs.Common.{◌≡◌, ◌++◌, length}
use Rattle.feed_mapping.specs.Notes.{note_views}
use Rattle.feed_mapping.specs.Outcomes.{all_notes, all_records}
use Rattle.feed_mapping.specs.SupplyChoices.{supply_choices_view}
use Rattle.feed_mapping.specs.Supplies.{detail_in, details_in}
use Rattle.feed_mapping.proofs.supplies.add_details.Given as goal

abbrev pub invariant-loop-detail : goal.invariant-loop-detail
invariant-loop-detail l = record {
  records : l.records ++ all_records (detail_in l.opening (supply_choices_view l.choices)) (details_in (supply_choices_view l.choices) l.rest)
      ≡ l.initial.records ++ all_records (detail_in l.opening (supply_choices_view l.choices)) (details_in (supply_choices_view l.choices) l.elements);
  notes : note_views l.notes.items ++ all_notes (detail_in l.opening (supply_choices_view l.choices)) (details_in (supply_choices_view l.choices) l.rest)
      ≡ note_views l.initial.notes.items ++ all_notes (detail_in l.opening (supply_choices_view l.choices)) (details_in (supply_choices_view l.choices) l.elements);
}

abbrev pub decreases-loop-detail : goal.decreases-loop-detail
decreases-loop-detail l = length (details_in (supply_choices_view l.choices) l.rest)
