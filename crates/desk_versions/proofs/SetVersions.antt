-- Rows that stand for requests stand for them in another version.
use Rattle.std.specs.Prelude.{◌≡◌, ℕ, List, Option, Some, None}
use Rattle.std.specs.FinMap as fin
use Rattle.std.proofs.Common.{refl, ◌∙◌}
use Rattle.desk_tables.specs.Rows.{DeskRows, version_in, with_version}
use Rattle.onix_records.specs.declared.agreements.Agreement.{Agreement}
use Rattle.series_rules.specs.Agreements.{agreements_of, between}
use Rattle.series_rules.specs.Firsts.{first_at}
use Rattle.series_rules.specs.Series.{after_all}
use Rattle.series_rules.specs.declared.requests.Request.{Request}
use Rattle.series_rules.specs.declared.requests.Standing.{Standing}
use Rattle.desk_rows.specs.Stands.{SeriesStands, StandsForIn, series_of}
use Rattle.desk_rows.proofs.CatalogueRows.{KeepsCatalogues, catalogue_kept}

pub version_stands : (number : ℕ) (rows : DeskRows) (L : List Request) → StandsForIn number rows L → version_in rows ≡ Some number
version_stands number rows L stands = rw stands.version refl

module _ (number : ℕ) (rows : DeskRows) where
  series_of_set : (o : Option Agreement) → series_of o rows ≡ series_of o (with_version number rows)
  series_of_set None = refl
  series_of_set (Some a) = refl

  keeps : KeepsCatalogues rows (with_version number rows)
  keeps = record { records = refl; articles = refl; offers = refl; prices = refl; minimums = refl }

  series_set : (f : ℕ → Option Standing) (a : Agreement) (hs : List Standing) → SeriesStands f a hs rows → SeriesStands f a hs (with_version number rows)
  series_set f a hs s = record {
    can_be_kept = s.can_be_kept;
    begins = s.begins;
    row = s.row;
    applied = s.applied;
    none_applied = s.none_applied;
    held = s.held;
    none_held = s.none_held;
    catalogue = catalogue_kept a.name (after_all fin.empty hs) rows (with_version number rows) keeps s.catalogue;
  }

  pub stands_set : (was : ℕ) (L : List Request) → StandsForIn was rows L → StandsForIn number (with_version number rows) L
  stands_set was L stands = record {
    version = rw stands.version refl;
    by_name = stands.by_name;
    by_parties = λ sender addressee. stands.by_parties sender addressee ∙ series_of_set (between (agreements_of L) sender addressee);
    series = λ a found. let it = stands.series a found in (it.0, it.1, series_set (first_at L a.name) a it.0 it.2);
    others = λ name none.
        let it = stands.others name none in
        record { held = it.held; applied = it.applied; catalogue = catalogue_kept name fin.empty rows (with_version number rows) keeps it.catalogue };
  }
