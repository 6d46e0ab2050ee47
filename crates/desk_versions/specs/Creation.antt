-- In which databases a desk is created.
use Rattle.std.specs.Prelude.{◌≡◌, ◌⊎◌, ◌||◌, ◌==◌, Bool, true, false, List, [], length}
use Rattle.std.specs.List.{list_any}
use Rattle.sqlite.specs.Files.{IsNothing}
use Rattle.sqlite_schema.specs.declared.schema.Table.{Table}
use Rattle.sqlite_wal.specs.Recovery.{Image}
use Rattle.desk_tables.specs.Schema.{is_meta}
use Rattle.desk_versions.specs.Openings.{HoldSuch}
use Rattle.desk_versions.specs.declared.opening.Creation.{Creation}
use Rattle.desk_versions.specs.declared.opening.Creation.TheVariants.{Anywhere, InEmpty, Never}

-- a database with these tables is opened: it has the table `meta` of a desk, or one may be created
-- in it
abbrev pub takes : Creation → List Table → Bool
takes Anywhere tables = true
takes InEmpty tables = (length tables == 0) || list_any is_meta tables
takes Never tables = list_any is_meta tables

-- no desk is opened in the files: they hold a database that is not taken, or none was made of them
-- yet, and none without a table is taken
abbrev pub AreRefused : Creation → Image → Type 0
AreRefused creation image =
    HoldSuch (λ db. takes creation db.schema.tables ≡ false) image
    ⊎ (IsNothing image × (takes creation [] ≡ false))
