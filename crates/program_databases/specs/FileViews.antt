-- The two files of a desk, as a desk is seen: before they are opened, and as they are left.
use Rattle.std.specs.Prelude.{◌≡◌, ℕ, List, Some, false, true}
use Rattle.std.specs.List.{list_any}
use Rattle.sqlite.specs.Closing.{HoldsAlone}
use Rattle.sqlite.specs.Effect.{Database, IsDatabase}
use Rattle.sqlite.specs.Files.{HoldsDatabase, image_of, over_files}
use Rattle.sqlite_disk.specs.declared.Disk.{Ghosts}
use Rattle.sqlite_disk.specs.declared.Files.{Files}
use Rattle.sqlite_store.specs.declared.store.FileStore.{FileStore}
use Rattle.sqlite_trees.specs.Tree.{Trees}
use Rattle.sqlite_trees.specs.View.{IsClean}
use Rattle.sqlite_wal.specs.Files.{outcomes}
use Rattle.sqlite_wal.specs.Reads.{AreClean}
use Rattle.sqlite_wal.specs.Recovery.{Image}
use Rattle.desk_tables.specs.Meta.{HoldsMeta, version_among}
use Rattle.desk_tables.specs.Rows.{MetaRow}
use Rattle.desk_tables.specs.Schema.{is_meta, lacks_index}
use Rattle.series_rules.specs.Content.{SameContent, same_trans}
use Rattle.series_rules.specs.Views.{View}
use Rattle.series_rules.specs.declared.requests.Request.{Request}
use Rattle.desk_rows.specs.Desks.{AreRowsOf}
use Rattle.desk_rows.specs.Seen.{in_tables}
use Rattle.desk_versions.specs.Creation.{AreRefused}
use Rattle.desk_versions.specs.Migrations.{AreFilesOfEither, migration}
use Rattle.desk_versions.specs.Openings.{AreFilesOf, AreFoundAs, HoldRowsOf, opening}
use Rattle.program_desks.specs.DeskFiles.{DeskFiles}
use Rattle.program_desks.specs.declared.kept_desks.Creation.{Creation}
use Rattle.program_databases.specs.Found.{store_creation}
use Rattle.program_databases.specs.Migrated.{IsMigrationDone}
use Rattle.program_databases.specs.Unopened.{LeavesFound}
use Rattle.program_databases.specs.declared.unopened.Unopened.{Unopened}

-- two files hold these trees, those of a database with a table `meta` of a desk, of which the index
-- is not missing
abbrev pub HoldMeta : Image → Trees → Type 0
HoldMeta image d =
    (db : Database) × IsDatabase db × (db.trees ≡ d) × ∥ HoldsDatabase image d ∥₁
    × (list_any is_meta db.schema.tables ≡ true) × (lacks_index db.schema ≡ false)

-- Two files may be taken for a desk: a database is found in them, or nothing yet, and if it has a
-- table `meta` of a desk, that tells version 2; else a desk may be created in it.
pub record MayBeTaken (image : Image) (creation : Creation) : Type 0 where
  pub found : (db : Trees) × AreFoundAs image db
  pub version : (db : Database) → ∥ HoldsDatabase image db.trees ∥₁ → (meta : List MetaRow)
      → HoldsMeta db meta → version_among meta ≡ Some 2
  pub taken : ¬ AreRefused (store_creation creation) image

-- two files before they are opened, which are opened only if they may be taken for a desk: they
-- hold what a list comes to, and once they are opened only the rows of such a list are left. A
-- database without a table `meta` may get the tables of a desk, and one that lacks the index may
-- get it
abbrev pub seen_image : Image → Creation → View in_tables
seen_image image creation = record {
  sound = MayBeTaken image creation;
  stands_for = λ M. (L : List Request) × AreFilesOf image L × SameContent L M;
  by_content = λ L M same files. (files.0, files.1, same_trans files.0 L M files.2 same);
  holds = HoldMeta image;
  may_leave = λ d. (L : List Request) → AreFilesOf image L → AreRowsOf d L;
}

-- two files that were closed: they hold the rows of what a list comes to, and a crash leaves files
-- in which the next opening finds those
abbrev pub seen_files : {D : Type 0} → (g : Ghosts D) → Files D → View in_tables
seen_files g files = record {
  sound = AreClean g files.log files.db;
  stands_for = λ M. (L : List Request) × HoldRowsOf (image_of g files) L × SameContent L M;
  by_content = λ L M same rows. (rows.0, rows.1, same_trans rows.0 L M rows.2 same);
  holds = λ d. ∥ HoldsDatabase (image_of g files) d ∥₁;
  may_leave = λ d.
      (image : Image) × outcomes g files.log files.db image × AreFoundAs image d;
}

-- the store of a desk whose files could not be closed: nothing is said but what a crash leaves
abbrev pub seen_store : {D : Type 0} → {g : Ghosts D} → FileStore D g → View in_tables
seen_store {g} store = record {
  sound = IsClean ((over_files {g = g}).view store);
  stands_for = λ M. Unit {0};
  by_content = λ L M same is. is;
  holds = λ d. Unit {0};
  may_leave = (over_files {g = g}).recovers store;
}

-- two files hold that database and no other, as they read now and as a crash may leave them
abbrev pub HoldAlone : {D : Type 0} → (g : Ghosts D) → Files D → Trees → Type 0
HoldAlone g files db =
    HoldsAlone (image_of g files) db
    × ((image : Image) → outcomes g files.log files.db image → HoldsAlone image db)

-- What is seen of two files. Held: what those of a name hold
abbrev pub stored_files : {K O U D : Type 0} → (g : Ghosts D) → (K → List ℕ → Image)
    → DeskFiles K in_tables (Files D) (FileStore D g) (Unopened O U D g)
stored_files g held = record {
  found = λ desks name creation. seen_image (held desks name) creation;
  closed = seen_files g;
  hold_alone = HoldAlone g;
  unclosed = seen_store;
  spared = λ desks name creation. LeavesFound opening (store_creation creation) (held desks name);
  of_any_version = λ desks name. AreFilesOfEither (held desks name);
  migrated = λ desks name creation. IsMigrationDone g (store_creation creation) (held desks name);
  unmigrated = λ desks name creation.
      LeavesFound migration (store_creation creation) (held desks name);
}
