use Rattle.std.proofs.Common.{sym}
use Rattle.feed_mapping.specs.Outcomes.{outcome_notes, outcome_records}
use Rattle.feed_mapping.specs.SupplyChoices.{supply_choices_view}
use Rattle.feed_mapping.specs.Supplies.{detail_in}
use Rattle.feed_mapping.proofs.ElementLaws.{one-more}
use Rattle.feed_mapping.proofs.supplies.add_details.Goals as goal

pub loop-detail-preserved : goal.loop-detail-preserved
loop-detail-preserved c =
    let parts = sym c.in-Some.ensures in
    let opening = c.args.opening.now in
    let choices = supply_choices_view c.args.choices.now in
    let before = c.loop-detail.invariant in record {
      records = one-more (λ x. outcome_records (detail_in opening choices x)) _ _ _ _ _ _ parts c.in_ok-add_one_detail.ensures.records before.records;
      notes = one-more (λ x. outcome_notes (detail_in opening choices x)) _ _ _ _ _ _ parts c.in_ok-add_one_detail.ensures.notes before.notes;
    }
