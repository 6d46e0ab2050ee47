-- What a migration of two files did.
use Rattle.std.specs.Prelude.{List}
use Rattle.sqlite.specs.Files.{image_of}
use Rattle.sqlite_disk.specs.declared.Disk.{Ghosts}
use Rattle.sqlite_disk.specs.declared.Files.{Files}
use Rattle.sqlite_wal.specs.Recovery.{Image}
use Rattle.series_rules.specs.declared.requests.Request.{Request}
use Rattle.desk_versions.specs.Creation.{AreRefused}
use Rattle.desk_versions.specs.Migrations.{AreFilesOfEither, AreMigrated}
use Rattle.desk_versions.specs.Openings.{HoldRowsOf}
use Rattle.desk_versions.specs.declared.opening.Creation.{Creation}
use Rattle.desk_versions.specs.declared.version_two.MigrateAnswer.{MigrateAnswer}
use Rattle.desk_versions.specs.declared.version_two.MigrateAnswer.TheVariants as answer
use Rattle.program_desks.specs.declared.kept_desks.Migration.{Migration}
use Rattle.program_desks.specs.declared.kept_desks.Migration.TheVariants.{Migrated, Unneeded}

-- what was answered where a migration did that
abbrev pub answer_as : Migration → MigrateAnswer
answer_as Migrated = answer.Migrated
answer_as Unneeded = answer.AlreadyTwo

-- a migration that did that is true of what the files held, and those that are left hold what was
-- made of that, of the same requests. Creation: in which databases a desk is created
pub record IsMigrationDone {D : Type 0} (g : Ghosts D) (creation : Creation) (image : Image)
    (did : Migration) (files : Files D) : Type 0 where
  pub made : AreMigrated (answer_as did) image (image_of g files)
  pub holds : (L : List Request) → AreFilesOfEither image L → HoldRowsOf (image_of g files) L
  pub taken : ¬ AreRefused creation image
