use Rattle.std.proofs.Common.{Option, ap, sym, ◌∙◌}
use Rattle.std.specs.Option.{option_or}
use Rattle.feed_mapping.specs.Notes.{Reason}
use Rattle.feed_mapping.specs.Outcomes.{outcome_notes, outcome_reason, outcome_records}
use Rattle.feed_mapping.specs.PriceViews.{reason_read}
use Rattle.feed_mapping.specs.Records.{option_filter}
use Rattle.feed_mapping.specs.SupplyChoices.{supply_choices_view}
use Rattle.feed_mapping.specs.Supplies.{is_lost, supply_in}
use Rattle.feed_mapping.proofs.ElementLaws.{first-more, one-more}
use Rattle.feed_mapping.proofs.supplies.add_each.Goals as goal

pub loop-supply-preserved : goal.loop-supply-preserved
loop-supply-preserved c =
    let parts = sym c.in-Some.ensures in
    let opening = c.args.opening.now in
    let choices = supply_choices_view c.args.choices.now in
    let before = c.loop-supply.invariant in
    let lost = c.former-lost.ensures ∙ ap (option_or (reason_read c.loop-supply.lost)) (c.lost_by.ensures ∙ ap (λ (kind : Option Reason). option_filter (λ r. is_lost r.kind) kind) c.in_ok-left_out.ensures.reason) in record {
      records = one-more (λ x. outcome_records (supply_in opening choices x)) _ _ _ _ _ _ parts c.in_ok-left_out.ensures.records before.records;
      notes = one-more (λ x. outcome_notes (supply_in opening choices x)) _ _ _ _ _ _ parts c.in_ok-left_out.ensures.notes before.notes;
      lost = first-more (λ x. option_filter (λ r. is_lost r.kind) (outcome_reason (supply_in opening choices x))) (reason_read c.loop-supply.lost) _ _ _ _ _ parts lost before.lost;
    }
