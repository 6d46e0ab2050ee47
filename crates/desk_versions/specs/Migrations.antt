-- What is found where a desk of version 1 is brought to version 2, and what that leaves.
use Rattle.std.specs.Prelude.{◌⊎◌, List, ⊤}
use Rattle.sqlite.specs.Effect.{Database}
use Rattle.sqlite.specs.Files.{HoldsDatabase}
use Rattle.sqlite_wal.specs.Recovery.{Image}
use Rattle.desk_tables.specs.Rows.{DeskRows, Holds, HoldsFirst, with_version}
use Rattle.series_rules.specs.declared.requests.Request.{Request}
use Rattle.desk_versions.specs.Openings.{AreFilesOf, ByFound, FindsSuch, Way}
use Rattle.desk_rows.specs.Stands.{StandsForIn}
use Rattle.desk_versions.specs.declared.version_two.MigrateAnswer.{MigrateAnswer}
use Rattle.desk_versions.specs.declared.version_two.MigrateAnswer.TheVariants.{Migrated, AlreadyTwo}

-- the database is one of version 1, with the rows of what those requests come to
abbrev pub HoldsFirstRequests : Database → List Request → Type 0
HoldsFirstRequests db L = (rows : DeskRows) × HoldsFirst db rows × StandsForIn 1 rows L

-- of rows of version 1 are made the same in version 2
abbrev pub MakesSecond : Database → DeskRows → Database → Type 0
MakesSecond db rows made = HoldsFirst db rows × Holds made (with_version 2 rows)

-- a desk is brought to version 2, by the answer
abbrev pub migration : MigrateAnswer → Way
migration AlreadyTwo = record {
  version = 2;
  stays = λ db. ⊤;
  changes = λ db. ⊥;
  creates = ⊥;
  made = MakesSecond;
}
migration Migrated = record {
  version = 1;
  stays = λ db. ⊥;
  changes = λ db. ⊤;
  creates = ⊤;
  made = MakesSecond;
}

-- The two files hold a desk of those requests, in version 1 or in version 2, or an empty database
-- and the requests are none.
abbrev pub AreFilesOfEither : Image → List Request → Type 0
AreFilesOfEither image L =
    ((db : Database) × ∥ HoldsDatabase image db.trees ∥₁ × HoldsFirstRequests db L)
    ⊎ AreFilesOf image L

-- the files hold a database for which that holds
abbrev pub IsHeld : Image → (Database → Type 0) → Type 0
IsHeld image Is = (now : Database) × Is now × ∥ HoldsDatabase image now.trees ∥₁

-- The files hold what a migration with that answer made of what was found in them.
abbrev pub AreMigrated : MigrateAnswer → Image → Image → Type 0
AreMigrated answer image after =
    FindsSuch image (λ db. ByFound (migration answer) db (IsHeld after))
