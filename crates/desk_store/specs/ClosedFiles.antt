-- The two files of a desk once they are closed.
use Rattle.sqlite.specs.Closing.{HoldsAlone}
use Rattle.sqlite.specs.Files.{image_of}
use Rattle.sqlite_disk.specs.declared.Disk.{Ghosts}
use Rattle.sqlite_disk.specs.declared.Files.{Files}
use Rattle.sqlite_trees.specs.Tree.{Trees}
use Rattle.sqlite_wal.specs.Files.{outcomes}
use Rattle.sqlite_wal.specs.Recovery.{Image}

-- they hold one database, as they read now and as a crash may leave them
abbrev pub HoldOneDatabase : {D : Type 0} → (g : Ghosts D) → Files D → Type 0
HoldOneDatabase g files =
    (db : Trees) × HoldsAlone (image_of g files) db
    × ((image : Image) → outcomes g files.log files.db image → HoldsAlone image db)
