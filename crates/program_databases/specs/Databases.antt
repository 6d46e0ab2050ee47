-- Two files of a database that were opened by a name.
use Rattle.std.specs.Prelude.{◌≡◌}
use Rattle.sqlite.specs.Files.{image_of}
use Rattle.sqlite_disk.specs.declared.Disk.{Ghosts}
use Rattle.sqlite_disk.specs.declared.Files.{Files}
use Rattle.sqlite_wal.specs.Files.{outcomes}
use Rattle.sqlite_wal.specs.Recovery.{Image}

-- they read as that, and a crash leaves just that
abbrev pub AreSettled : {D : Type 0} → (g : Ghosts D) → Image → Files D → Type 0
AreSettled g image files =
    (image_of g files ≡ image)
    × ((left : Image) → outcomes g files.log files.db left → left ≡ image)
