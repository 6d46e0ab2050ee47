use Rattle.std.proofs.Common.{◌≡◌, ◌+◌, ◌<◌, [], ℕ, get_or, map}
use Rattle.std.specs.Cmp.Lexicographic.{slice_cmp}
use Rattle.std.specs.Ordering.{nat_cmp}
use Rattle.std.specs.declared.cmp.Ordering.TheVariants.{Less}
use Rattle.desk_tables.specs.declared.series.SeriesRow.{SeriesRow}
use Rattle.desk_rows.proofs.listing.names_rise.Given as goal

-- the names before that place rise
abbrev pub invariant-loop-k : goal.invariant-loop-k
invariant-loop-k l = record {
  rise : (j : ℕ) → j + 1 < l.k → slice_cmp nat_cmp (get_or (map (λ (r : SeriesRow). r.agreement.name) l.rows) j []) (get_or (map (λ (r : SeriesRow). r.agreement.name) l.rows) (j + 1) []) ≡ Less;
}
