-- What is read of some records of a series.
use Rattle.std.specs.Prelude.{◌≡◌, ℕ, Bool, IsSome, List, None, if◌then◌else◌}
use Rattle.std.specs.FinMap as map
use Rattle.std.specs.List.{All, list_any}
use Rattle.std.specs.Str.{bytes_eq}
use Rattle.catalogue_rules.specs.Records.{ByReference}
use Rattle.desk_tables.specs.Rows.{DeskRows}
use Rattle.desk_tables.specs.declared.records.RecordRow.{RecordRow}
use Rattle.desk_catalogue.specs.Holding.{HoldsCatalogue}

-- a record of the series that the catalogue has
pub record IsRecordOf (series : List ℕ) (m : ByReference) (row : RecordRow) : Type 0 where
  pub series_is : row.series ≡ series
  pub there : IsSome (map.get m row.reference)

abbrev pub is_named : List ℕ → RecordRow → Bool
is_named reference row = bytes_eq row.reference reference

-- at the references of those records as m, and empty elsewhere
abbrev pub IsPartOf : ByReference → List RecordRow → ByReference → Type 0
IsPartOf m records part = (reference : List ℕ)
    → map.get part reference ≡ if list_any (is_named reference) records then map.get m reference
    else None

-- where the rows hold a catalogue that has those records, it is the part of it that they make
abbrev pub AreReadOf : List RecordRow → DeskRows → ByReference → Type 0
AreReadOf records rows part = (series : List ℕ) (m : ByReference) → HoldsCatalogue series m rows
    → All (IsRecordOf series m) records → IsPartOf m records part
