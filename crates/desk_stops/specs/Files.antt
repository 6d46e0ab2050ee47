-- Runs of the desk in two files: what is promised of the files, as what the events of a run ask
-- for.
use Rattle.std.specs.Prelude.{◌≡◌, ◌⊎◌, List, []}
use Rattle.sqlite.specs.Closing.{IsCopied}
use Rattle.sqlite.specs.Files.{HoldsDatabase, IsCleanLeft, IsClosed, IsEmpty, file_state, image_of}
use Rattle.sqlite.specs.Held.{Held, IsConnected, state}
use Rattle.sqlite.specs.State.{HasCleanDisk}
use Rattle.sqlite.specs.declared.file.Leftover.TheVariants as leftover
use Rattle.sqlite_disk.specs.declared.Disk as disk
use Rattle.sqlite_disk.specs.declared.Files.{Files}
use Rattle.sqlite_store.specs.FileStore as files
use Rattle.sqlite_store.specs.FileStore.{recovers, view}
use Rattle.sqlite_store.specs.declared.store.FileStore.{FileStore}
use Rattle.sqlite_trees.specs.Tree.{Trees}
use Rattle.sqlite_trees.specs.declared.store.Store.{Ghosts}
use Rattle.sqlite_wal.specs.Reads.{AreClean}
use Rattle.sqlite_wal.specs.Recovery.{Image}
use Rattle.series_rules.specs.declared.requests.Request.{Request}
use Rattle.desk_rows.specs.Desks.{AreRowsOf, KeepsRequests}
use Rattle.desk_rows.specs.Seen.{in_tables, seen_in}
use Rattle.desk_versions.specs.Openings.{AreFilesOf, SparesFiles, opening}
use Rattle.desk_stops.specs.Connections.{HaveNoTable}
use Rattle.desk_stops.specs.Runs.{Closes, IsFoundFor, KeepsFound, Opens}

-- the files hold a database with these trees, or the database file has no byte yet and they are
-- empty
abbrev pub AreFilesAt : Image → Trees → Type 0
AreFilesAt image found = ∥ HoldsDatabase image found ∥₁ ⊎ ((image.db ≡ []) × IsEmpty found)

-- What a desk's opening of two files promises makes it one of a run, at the database that the files
-- hold.
pub record FileOpeningsAreEvents {D : Type 0} (g : disk.Ghosts D) : Type 0 where
  -- what is found for a list are files of it
  pub found : (image : Image) (found : Trees) → AreFilesAt image found
      → (L : List Request) → IsFoundFor in_tables HaveNoTable found L
      → AreFilesOf image L
  -- with a desk, by its clauses `stands` and `alone`
  pub ok : (image : Image) (found : Trees) (new : Held (FileStore D g)) → AreFilesAt image found
      → (HasCleanDisk (file_state new)
      → (L : List Request) → AreFilesOf image L
      → KeepsRequests (file_state new) L)
      → (HasCleanDisk (file_state new) → (L : List Request) → AreFilesOf image L → (left : Trees)
      → (file_state new).may_leave left → AreRowsOf left L)
      → Opens in_tables HaveNoTable found (seen_in (file_state new))
  -- with a fault, by its clause `left` (`KeepsFiles`), where a store is left of the files
  pub failed : (image : Image) (found : Trees) (it : FileStore D g) → AreFilesAt image found
      → (IsCleanLeft (leftover.Store it) → SparesFiles opening image (recovers it))
      → IsCleanLeft (leftover.Store it)
      → (left : Trees) → recovers it left
      → KeepsFound in_tables HaveNoTable found left

-- what a stop and a closing leave of the files, at which the next opening is an event
pub record FilesAreLeft {D : Type 0} (g : disk.Ghosts D) : Type 0 where
  -- each pair of files that a stop may leave holds a database that is an event of a run
  pub stop : (old : Held (FileStore D g)) (image : Image)
      → IsConnected (view old.store) (recovers old.store) old.schema old.saved old.in_transaction
      → HasCleanDisk (file_state old)
      → (files.state old.store).may_leave image
      → ∥ ((left : Trees) × AreFilesAt image left
      × (file_state old).may_leave left) ∥₁
  -- so it is with the files that a closing gives back, by its clause `copied`
  pub closing : (old : Held (FileStore D g)) (files : Files D)
      → (AreClean g files.log files.db → IsCopied old files)
      → AreClean g files.log files.db
      → AreFilesAt (image_of g files) (file_state old).committed.trees
      × Closes in_tables HaveNoTable (seen_in (file_state old)) (file_state old).committed.trees
  -- a closing that failed, or that a stop came into, is a stop: it leaves what a stop before it may
  -- leave
  pub failed : (old : Held (FileStore D g)) (last : FileStore D g) → IsClosed old last
      → (left : Trees) → recovers last left
      → (file_state old).may_leave left
