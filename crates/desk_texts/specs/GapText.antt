-- The records of a report on the gaps of a series.
use Prim.Native.String.{String}
use Rattle.std.specs.Prelude.{ℕ, List, [], ◌∷◌, ◌++◌, codes, length, map}
use Rattle.std.specs.Fmt.{decimal}
use Rattle.std.specs.Option.{option_map_or}
use Rattle.series_rules.specs.declared.answers.GapReport.{GapReport}
use Rattle.desk_texts.specs.Records.{Fields, Records}

-- a number behind its name
abbrev pub labelled : String → ℕ → List ℕ
labelled name n = codes name ++ decimal n

-- the numbers of a report, each behind its name
unfoldable pub gap_fields : GapReport → Fields
gap_fields g =
    codes "gaps"
    ∷ g.series
    ∷ labelled "first=" g.first
    ∷ labelled "next=" g.next
    ∷ (codes "greatest=" ++ option_map_or decimal g.greatest [])
    ∷ labelled "held=" g.held
    ∷ labelled "missing=" (length g.missing)
    ∷ []

-- numbers that are missing, from the first to the last
abbrev pub missing_fields : ℕ × ℕ → Fields
missing_fields (first, last) = codes "missing" ∷ decimal first ∷ decimal last ∷ []

-- a report, and then each range of numbers that are missing
unfoldable pub gap_records : GapReport → Records
gap_records g = gap_fields g ∷ map missing_fields g.missing
