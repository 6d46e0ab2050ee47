-- Requests whose messages are of form 1, what tables of version 1 kept of them, and what those of
-- version 2 come from.
use Rattle.std.specs.Prelude.{◌≡◌, ℕ, List, [], ⊤}
use Rattle.std.specs.FinMap as fin
use Rattle.std.specs.List.{AllByRecursion}
use Rattle.catalogue_rules.specs.Records.{EachHas}
use Rattle.desk_catalogue.specs.Minimums.{HasNoMinimums}
use Rattle.desk_tables.specs.Rows.{DeskRows, with_version}
use Rattle.onix_records.specs.declared.agreements.Agreement.{Agreement}
use Rattle.onix_records.specs.Grammar.{IsMessage}
use Rattle.onix_records.specs.declared.parts.Header.{Header}
use Rattle.onix_records.specs.declared.parts.Product.{Product}
use Rattle.onix_records.specs.declared.row.Form.TheVariants.{One}
use Rattle.series_rules.specs.Firsts.{first_at}
use Rattle.series_rules.specs.Series.{BeginsWith, after_all}
use Rattle.series_rules.specs.declared.requests.Request.{Request}
use Rattle.series_rules.specs.declared.requests.Request.TheVariants.{Deliver}
use Rattle.series_rules.specs.declared.requests.Standing.{Standing}
use Rattle.desk_rows.specs.Stands.{StandsFor, StandsForIn}

-- if it delivers a message, that is of form 1
abbrev pub IsOfFormOne : Request → Type 0
IsOfFormOne (Deliver records) =
    (h : Header) (c : List Product) (m : IsMessage records h c) → m.form ≡ One
IsOfFormOne _ = ⊤

-- each message that the requests deliver is of form 1
abbrev pub AreOfFormOne : List Request → Type 0
AreOfFormOne L = AllByRecursion IsOfFormOne L

-- tables of version 1 are what those requests come to: they have no minimums
abbrev pub FirstStandsFor : DeskRows → List Request → Type 0
FirstStandsFor rows L = StandsForIn 1 rows L × (rows.minimums ≡ [])

-- Tables of version 1 and of version 2 are of the same requests: but for the version these have the
-- rows of those.
pub record VersionsAgree : Type 0 where
  pub up : (rows : DeskRows) (L : List Request) → FirstStandsFor rows L
      → StandsFor (with_version 2 rows) L
  -- where each message is of form 1
  pub down : (rows : DeskRows) (L : List Request) → AreOfFormOne L
      → StandsFor rows L
      → FirstStandsFor (with_version 1 rows) L × (with_version 2 (with_version 1 rows) ≡ rows)
  -- what is applied of such messages has no minimums, so that version 1 kept all of it
  pub whole : (L : List Request) → AreOfFormOne L → (a : Agreement) (hs : List Standing)
      → BeginsWith (first_at L a.name) a.first hs
      → EachHas HasNoMinimums (after_all fin.empty hs)
