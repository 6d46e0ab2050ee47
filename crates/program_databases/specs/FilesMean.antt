-- Of which lists of requests the two files of a desk are, and what a run makes of that.
use Rattle.std.specs.Prelude.{◌≡◌, ◌↔◌, ◌⊎◌, ◌∷◌, ℕ, Contains, List, [], false}
use Rattle.sqlite.specs.Files.{HoldsDatabase, image_of, over_files}
use Rattle.sqlite_disk.specs.declared.Disk.{Ghosts}
use Rattle.sqlite_disk.specs.declared.Files.{Files}
use Rattle.sqlite_store.specs.declared.store.FileStore.{FileStore}
use Rattle.sqlite_trees.specs.Tree.{Trees}
use Rattle.sqlite_trees.specs.View.{IsClean}
use Rattle.sqlite_wal.specs.Files.{outcomes}
use Rattle.sqlite_wal.specs.Reads.{AreClean}
use Rattle.sqlite_wal.specs.Recovery.{Image}
use Rattle.price_rules.specs.declared.precedence.Rule.{Rule}
use Rattle.series_rules.specs.Content.{SameContent}
use Rattle.series_rules.specs.Steps.{Leads, Step, has_change, in_doubt, with_answered}
use Rattle.series_rules.specs.declared.requests.Request.{Request}
use Rattle.desk_rows.specs.Seen.{in_tables}
use Rattle.desk_versions.specs.Migrations.{AreFilesOfEither, migration}
use Rattle.desk_versions.specs.Openings.{AreEmptyFiles, AreFoundAs, opening}
use Rattle.program_desks.specs.DeskFiles.{DeskFiles, LastsAlone}
use Rattle.program_desks.specs.declared.kept_desks.Creation.{Creation}
use Rattle.program_desks.specs.declared.kept_desks.Migration.{Migration}
use Rattle.program_databases.specs.FileViews.{HoldAlone, HoldMeta, MayBeTaken}
use Rattle.program_databases.specs.Found.{store_creation}
use Rattle.program_databases.specs.Migrated.{IsMigrationDone}
use Rattle.program_databases.specs.Unopened.{LeavesFound}
use Rattle.program_databases.specs.declared.unopened.Unopened.{Unopened}

-- Held: what the files of a name hold, before they are opened
module _ {K O U D : Type 0} (g : Ghosts D) (held : K → List ℕ → Image)
    (files : DeskFiles K in_tables (Files D) (FileStore D g) (Unopened O U D g)) where
  -- What files mean, whatever the relation is by which they are of lists of requests (`AreOf`).
  pub record MeanLists (AreOf : Image → List Request → Type 0) : Type 0 where
    -- desks are seen in files, before they are opened and once they are closed, by these lists
    pub found : (desks : K) (name : List ℕ) (creation : Creation) (L : List Request)
        → (files.found desks name creation).stands_for L
        ↔ ((M : List Request) × AreOf (held desks name) M × SameContent M L)
    pub closed : (now : Files D) (L : List Request) → (files.closed now).stands_for L
        → (M : List Request) × AreOf (image_of g now) M × SameContent M L
    pub clean : (now : Files D) → (files.closed now).sound ↔ AreClean g now.log now.db
    -- files without a desk are of the empty list
    pub blank : (image : Image) → AreEmptyFiles image → AreOf image []
    -- a run that led from files to these hands on the list, with what it answered
    pub handed : (rules : List Rule) (steps : List Step) (desks : K) (name : List ℕ)
        (creation : Creation) (now : Files D) (L : List Request)
        → Leads rules steps (files.found desks name creation) (files.closed now)
        → AreClean g now.log now.db → AreOf (held desks name) L
        → AreOf (image_of g now) (with_answered L steps)
    -- lists of which the same files are, if something is found in these, come to the same
    pub one : (image : Image) (d : Trees) → AreFoundAs image d → (L M : List Request)
        → AreOf image L → AreOf image M → SameContent L M

  -- What a crash leaves of the files of a desk is of the same lists.
  pub record KeepLists (AreOf : Image → List Request → Type 0) : Type 0 where
    -- of closed files that last alone, if something is found in them; so is the database file
    -- without its log
    pub closed : (now : Files D) (d : Trees) (left : Image) (L : List Request)
        → LastsAlone files now → AreClean g now.log now.db → AreFoundAs (image_of g now) d
        → AreOf (image_of g now) L → outcomes g now.log now.db left
        → AreOf left L × AreOf (record left { log = [] }) L
    -- of files that could not be closed behind a run: of the list with what was answered, or with
    -- this and one request that is in doubt, or, where no answer changed something, as they were
    pub unclosed : (rules : List Rule) (steps : List Step) (desks : K) (name : List ℕ)
        (creation : Creation) (last : FileStore D g) (d : Trees) (left : Image) (L : List Request)
        → Leads rules steps (files.found desks name creation) (files.unclosed last)
        → IsClean ((over_files {g = g}).view last) → (over_files {g = g}).recovers last d
        → ∥ HoldsDatabase left d ∥₁ → AreOf (held desks name) L
        → AreOf left (with_answered L steps)
        ⊎ (((r : Request) × Contains (in_doubt L steps) r × AreOf left (r ∷ with_answered L steps))
        ⊎ ((has_change L steps ≡ false) × AreOf left L))

  -- What is said of the files of a name is said of what these hold, whether a desk is opened in
  -- them or not.
  pub record AreTakenRightly : Type 0 where
    -- they are opened only if they may be taken for a desk
    pub opened : (desks : K) (name : List ℕ) (creation : Creation)
        → (files.found desks name creation).sound ↔ MayBeTaken (held desks name) creation
    pub holds : (desks : K) (name : List ℕ) (creation : Creation) (d : Trees)
        → (files.found desks name creation).holds d ↔ HoldMeta (held desks name) d
    -- so are closed ones, also where they last alone
    pub kept : (now : Files D) (d : Trees)
        → (files.closed now).holds d ↔ ∥ HoldsDatabase (image_of g now) d ∥₁
    pub alone : (now : Files D) (d : Trees) → files.hold_alone now d ↔ HoldAlone g now d
    -- where no desk is opened, and where none is brought to version 2, that is left of them
    pub spared : (desks : K) (name : List ℕ) (creation : Creation) (left : Unopened O U D g)
        → files.spared desks name creation left
        ↔ LeavesFound opening (store_creation creation) (held desks name) left
    pub unmigrated : (desks : K) (name : List ℕ) (creation : Creation) (left : Unopened O U D g)
        → files.unmigrated desks name creation left
        ↔ LeavesFound migration (store_creation creation) (held desks name) left
    pub of_any_version : (desks : K) (name : List ℕ) (L : List Request)
        → files.of_any_version desks name L ↔ AreFilesOfEither (held desks name) L
    pub migrated : (desks : K) (name : List ℕ) (creation : Creation) (did : Migration)
        (now : Files D) → files.migrated desks name creation did now
        ↔ IsMigrationDone g (store_creation creation) (held desks name) did now
