use Rattle.std.proofs.Common.{ap, sym, ◌∙◌, option_map, unwrap_or}
use Rattle.desk_tables.specs.RecordRows.{MinimumRow}
use Rattle.desk_tables.specs.RecordAnswers.{is_minimum_at}
use Rattle.desk_tables.proofs.prices.minimum_of.Goals.{in-Some, in-None}
use Rattle.desk_tables.proofs.Places.{find_at, find_none, let_through}
use Rattle.desk_tables.proofs.prices.minimum_of.Goals as goal

pub returns-in-Some-from_value : goal.returns-in-Some-from_value
returns-in-Some-from_value c up =
    let p = is_minimum_at c.args.reference.now c.args.place c.args.price_place in
    let value = let_through _ c.match-place_of_minimum.value c.in-Some-from_value.minimum c.from_value.result c.from_value.ensures c.in-Some-from_value.is in
    elim c.match-place_of_minimum.branch [
      | in-Some w ↦ value ∙ w.value-is ∙ sym (ap (λ found. unwrap_or (option_map (λ (r : MinimumRow). r.minimum) found) 1) (find_at p c.args.minimums.now w.in-Some.at w.index-minimums-at.result (sym (c.place_of_minimum.ensures.place up) ∙ w.in-Some.is)))
      | in-None w ↦ value ∙ w.value-is ∙ sym (ap (λ found. unwrap_or (option_map (λ (r : MinimumRow). r.minimum) found) 1) (find_none p c.args.minimums.now (sym (c.place_of_minimum.ensures.place up) ∙ w.in-None.is)))
    ]
