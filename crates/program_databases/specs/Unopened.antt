-- What is left of two files of which no desk was opened.
use Rattle.std.specs.Prelude.{⊤}
use Rattle.sqlite.specs.Files.{IsCleanLeft, LeavesFiles}
use Rattle.sqlite_disk.specs.declared.Disk.{Ghosts}
use Rattle.sqlite_disk.specs.declared.Files.{Files}
use Rattle.sqlite_wal.specs.Recovery.{Image}
use Rattle.desk_versions.specs.Creation.{AreRefused}
use Rattle.desk_versions.specs.Openings.{KeepsFiles, Way}
use Rattle.desk_versions.specs.declared.opening.Creation.{Creation}
use Rattle.program_databases.specs.Databases.{AreSettled}
use Rattle.program_databases.specs.declared.unopened.Unopened.{Unopened}
use Rattle.program_databases.specs.declared.unopened.Unopened.TheVariants.{Left}

-- there are no files: none was touched, or the one call that opens them gave none
abbrev pub HasNoFiles : {O U D : Type 0} → {g : Ghosts D} → Unopened O U D g → Type 0
HasNoFiles (Left left) = ⊥
HasNoFiles _ = ⊤

-- Of files that held `image` a crash leaves what is said of these, and just that where no desk is
-- opened in such. Ways: what was to be done to them
abbrev pub LeavesFound : {O U D A : Type 0} → {g : Ghosts D} → (A → Way) → Creation → Image
    → Unopened O U D g → Type 0
LeavesFound {D = D} {g = g} ways creation image (Left left) =
    IsCleanLeft left → KeepsFiles {g = g} (AreSettled g image) ways image left
    × (AreRefused creation image → (files : Files D) × AreSettled g image files
    × LeavesFiles {g = g} files left)
LeavesFound ways creation image _ = ⊤
