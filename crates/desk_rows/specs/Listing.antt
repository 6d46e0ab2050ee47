-- Rows of series, as they are listed.
use Rattle.std.specs.Prelude.{List, map}
use Rattle.std.specs.Cmp.Lexicographic.{slice_cmp}
use Rattle.std.specs.Ordering.{nat_cmp}
use Rattle.std.specs.List.Sorted.{IsStrictlySortedBy}
use Rattle.desk_tables.specs.declared.series.SeriesRow.{SeriesRow}

-- each name is behind the one before it
abbrev pub NamesRise : List SeriesRow → Type 0
NamesRise rows = IsStrictlySortedBy (slice_cmp nat_cmp) (map (λ r. r.agreement.name) rows)
