-- What is promised of a desk's files makes their openings, closings and stops events of a run.
use Rattle.std.proofs.Common.{◌≡◌, ◌⊎◌, List, inl, inr, refl, sym, subst}
use Rattle.std.proofs.Math.Logic.{∥∥₁_elim, ∥∥₁_map}
use Rattle.sqlite.proofs.Theorems.{opens_again}
use Rattle.sqlite.specs.Effect.{Database, IsDatabase}
use Rattle.sqlite.specs.Files.{HoldsDatabase, IsEmpty, file_state}
use Rattle.sqlite_disk.specs.declared.Disk as disk
use Rattle.sqlite_store.specs.FileStore.{recovers}
use Rattle.sqlite_trees.specs.Props.{Trees-set}
use Rattle.sqlite_trees.specs.Tree.{Trees}
use Rattle.sqlite_wal.specs.Recovery.{Image}
use Rattle.desk_tables.specs.Schema.{schema_0}
use Rattle.series_rules.specs.declared.requests.Request.{Request}
use Rattle.desk_rows.specs.Desks.{AreRowsOf}
use Rattle.desk_rows.specs.Seen.{in_tables}
use Rattle.desk_versions.specs.Openings.{AreEmptyFiles, AreFilesOf, AreFoundAs, SparesFiles, opening}
use Rattle.desk_rows.proofs.ComesTo.{come_rows, rows_come, stored}
use Rattle.desk_versions.proofs.EmptyFiles.{bare_database, empty_files, found_empty}
use Rattle.desk_versions.proofs.FoundFiles.{found_for}
use Rattle.desk_versions.proofs.FoundTables as tables
use Rattle.desk_versions.proofs.FoundTables.{left_stands}
use Rattle.desk_stops.specs.Connections.{HaveNoTable}
use Rattle.desk_stops.specs.Files.{AreFilesAt, FileOpeningsAreEvents, FilesAreLeft}
use Rattle.desk_stops.specs.Runs.{IsFoundFor}
use Rattle.desk_stops.proofs.ConnectionLaws.{empty_holds_no_rows}

bare : (d : Trees) → IsEmpty d → HaveNoTable d
bare d empty = (record { schema = schema_0; trees = d }, refl, bare_database d empty)

-- files that hold no table are empty ones
held_empty : (image : Image) (d : Trees) → ∥ HoldsDatabase image d ∥₁ → HaveNoTable d → AreEmptyFiles image
held_empty image d both (db, same, none) = inr (db, subst (λ t. ∥ HoldsDatabase image t ∥₁) (sym same) both, none.1, none.0)

module _ {D : Type 0} (g : disk.Ghosts D) where
  abbrev Found : Trees → List Request → Type 0
  Found = IsFoundFor in_tables HaveNoTable

  found_files : (image : Image) (found : Trees) → AreFilesAt image found → (L : List Request) → Found found L → AreFilesOf image L
  found_files image found (inl both) L (inl comes) = inl (found, both, come_rows found L comes)
  found_files image found (inl both) L (inr none) = inr (held_empty image found both none.0, none.1)
  found_files image found (inr (no_byte, empty)) L (inl comes) = absurd (empty_holds_no_rows found L (bare found empty) (come_rows found L comes))
  found_files image found (inr (no_byte, empty)) L (inr none) = inr (empty_files image no_byte, none.1)

  -- what is left is what was found, or holds the same rows, and no table or the tables of no request
  module _ (image : Image) (found left : Trees) (at : AreFilesAt image found) (L : List Request) (is : Found found L) where
    again : AreFilesAt image found → Found found L → AreFoundAs image left → Found left L
    again (inl both) found_for same = subst (λ d. Found d L) (sym (∥∥₁_elim both (Trees-set _ _) (same.1 found))) found_for
    again (inr (no_byte, empty)) (inl comes) same = absurd (empty_holds_no_rows found L (bare found empty) (come_rows found L comes))
    again (inr (no_byte, empty)) (inr none) same = inr (bare left (found_empty image no_byte left same.0), none.1)

    of_found : (db : Database) → IsDatabase db → tables.IsFoundFor db L → (left ≡ db.trees) ⊎ AreRowsOf left L → Found left L
    of_found db sound found_for (inr rows) = inl (rows_come left L rows)
    of_found db sound (inl stored) (inl same) = inl (rows_come left L (db, sym same, stored))
    of_found db sound (inr none) (inl same) = inr ((db, sym same, (none.0, sound)), none.1)

    kept_found : (may : Trees → Type 0) → SparesFiles opening image may → may left → Found left L
    kept_found may (inl as_found) leaves = again at is (as_found left leaves)
    kept_found may (inr (db, sound, was, spares)) leaves =
        let files = found_for image db sound was L (found_files image found at L is) in of_found db sound files (left_stands db may spares L files left leaves)

  pub file_openings_are_events : FileOpeningsAreEvents g
  file_openings_are_events = record {
    found = found_files;
    ok = λ image found new at stands alone. record { stands = λ sound L is. stands sound L (found_files image found at L is); alone = λ sound L is left may. rows_come left L (alone sound L (found_files image found at L is) left may) };
    failed = λ image found it at keeps clean left leaves L is. kept_found image found left at L is (recovers it) (keeps clean) leaves;
  }

  pub files_are_left : FilesAreLeft g
  files_are_left = record {
    stop = λ old image connected clean leaves. ∥∥₁_map (opens_again old.store (connected.numbered clean) (connected.found clean) image leaves) (λ is. (is.0, inl ∣ is.2 ∣₁, is.1));
    closing = λ old files copied clean.
        let it = copied clean in
        (inl it.seen.both, λ L stands. inl (rows_come (file_state old).committed.trees L ((file_state old).committed, refl, stored (file_state old).committed L (stands it.was_open).2)));
    failed = λ old last it left leaves. it.quiet.outcomes left leaves;
  }
