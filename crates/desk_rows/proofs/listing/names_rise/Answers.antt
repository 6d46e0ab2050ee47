use Rattle.std.proofs.Common.{◌≡◌, ◌+◌, ◌-◌, ◌<◌, ◌≤◌, ◌∙◌, inl, inr, ℕ, List, [], ap, ap₂, arith, get_or, map, length}
use Rattle.std.specs.Cmp.Lexicographic.{slice_cmp}
use Rattle.std.specs.Ordering.{nat_cmp}
use Rattle.std.specs.declared.cmp.Ordering.TheVariants.{Less}
use Rattle.std.proofs.lemmas.Bool.{cases_lt}
use Rattle.std.proofs.lemmas.Cmp.{nat_list_cmp_total}
use Rattle.std.proofs.lemmas.List.{get_or-map, length-map}
use Rattle.std.proofs.lemmas.Map.Keys.{sorted_from_all_adjacent}
use Rattle.desk_tables.specs.declared.series.SeriesRow.{SeriesRow}
use Rattle.desk_rows.proofs.listing.names_rise.Goals as goal

abbrev name_of : SeriesRow → List ℕ
name_of r = r.agreement.name

-- the name at this place is behind the one before it
rises_at : (rows : List SeriesRow) (j k : ℕ) (before at : SeriesRow) → j + 1 < k + 1 → k ≤ j + 1 → k < length rows
    → slice_cmp nat_cmp (name_of (get_or rows (k - 1) before)) (name_of (get_or rows k at)) ≡ Less
    → slice_cmp nat_cmp (get_or (map name_of rows) j []) (get_or (map name_of rows) (j + 1) []) ≡ Less
rises_at rows j k before at up to within less =
    let first : j ≡ k - 1 = omega (arith, up, to) in
    let second : j + 1 ≡ k = omega (arith, up, to) in
    let one = get_or-map name_of rows j before [] (omega (arith, up, to, within)) ∙ ap (λ i. name_of (get_or rows i before)) first in
    let two = get_or-map name_of rows (j + 1) at [] (omega (arith, up, to, within)) ∙ ap (λ i. name_of (get_or rows i at)) second in
    ap₂ (slice_cmp nat_cmp) one two ∙ less

pub loop-k-preserved : goal.loop-k-preserved
loop-k-preserved c = record {
  rise = λ j up.
      elim (cases_lt (j + 1) c.loop-k.k) [
        | inl earlier ↦ c.loop-k.invariant.rise j earlier
        | inr to ↦
            rises_at c.args.rows.now j c.loop-k.k c.index-rows-k.result c.index-rows-k-in-loop-k.result up to c.loop-k-test.true
            (c.is_before.ensures.0 c.if-not-is_before.false)
      ];
}

pub returns : goal.returns
returns c = λ yes.
    sorted_from_all_adjacent nat_list_cmp_total (map name_of c.args.rows.now) []
    (λ j lt. c.loop-k.invariant.rise j (omega (arith, lt, length-map c.args.rows.now name_of, c.loop-k-test.false)))
