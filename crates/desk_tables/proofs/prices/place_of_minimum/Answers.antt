use Rattle.std.proofs.Common.{rules, ℕ, List, [], get_or, ap, sym, ◌∙◌, arith}
use Rattle.std.proofs.lemmas.List.Sorted.{IsPartitionPoint-from_clause}
use Rattle.desk_tables.specs.RecordRows.{MinimumRow}
use Rattle.desk_tables.specs.RecordAnswers.{is_minimum_at, minimum_key}
use Rattle.desk_tables.proofs.MinimumPlaces.{price_total, ties, same_place}
use Rattle.desk_tables.proofs.SortedKeys.{before, first_equal, none_equal, partitioned}
use Rattle.desk_tables.proofs.prices.place_of_minimum.Goals.{else-at-minimums-via-then-at-minimums+else-is_minimum_at, else-at-minimums-via-else-at-minimums}
use Rattle.desk_tables.proofs.prices.place_of_minimum.Goals as goal

pub returns-then-is_minimum_at-clause-place : goal.returns-then-is_minimum_at-clause-place
returns-then-is_minimum_at-clause-place c up =
    let key : List ℕ × ℕ × ℕ = (c.args.reference.now, c.args.place, c.args.price_place) in
    let rows = c.args.minimums.now in
    let at = c.partition_point-at.result in
    let parts = IsPartitionPoint-from_clause (before price_total minimum_key key) rows at c.partition_point-at.ensures.partitioned (partitioned price_total minimum_key key rows up) (λ a r q k. search rules) in
    let d = c.index-minimums-at.result in
    let is = ties c.args.reference.now c.args.place c.args.price_place (get_or rows at d) ∙ ap (is_minimum_at c.args.reference.now c.args.place c.args.price_place) (sym c.index-minimums-at.is) ∙ sym c.is_minimum_at.ensures ∙ c.if-is_minimum_at.true in
    sym (first_equal price_total minimum_key key rows at d parts c.if-at-minimums.true is) ∙ same_place c.args.reference.now c.args.place c.args.price_place rows

pub returns-clause-place : goal.returns-clause-place
returns-clause-place c up =
    let key : List ℕ × ℕ × ℕ = (c.args.reference.now, c.args.place, c.args.price_place) in
    let rows = c.args.minimums.now in
    let at = c.partition_point-at.result in
    let parts = IsPartitionPoint-from_clause (before price_total minimum_key key) rows at c.partition_point-at.ensures.partitioned (partitioned price_total minimum_key key rows up) (λ a r q k. search rules) in
    elim c.else-at-minimums.branch [
      | else-at-minimums-via-then-at-minimums+else-is_minimum_at w ↦
          let d = w.index-minimums-at.result in
          let other = ties c.args.reference.now c.args.place c.args.price_place (get_or rows at d) ∙ ap (is_minimum_at c.args.reference.now c.args.place c.args.price_place) (sym w.index-minimums-at.is) ∙ sym w.is_minimum_at.ensures ∙ w.if-is_minimum_at.false in
          sym (none_equal price_total minimum_key key rows at d up parts (λ _. other)) ∙ same_place c.args.reference.now c.args.place c.args.price_place rows
      | else-at-minimums-via-else-at-minimums w ↦
          let d : MinimumRow = record { series = []; reference = []; place = 0; price_place = 0; minimum = 0 } in
          sym (none_equal price_total minimum_key key rows at d up parts (λ within. absurd (omega (arith, within, w.if-at-minimums.false)))) ∙ same_place c.args.reference.now c.args.place c.args.price_place rows
    ]
