-- How a command ends over the desk in the files of a name, whatever it asks of the desk.
use Rattle.std.specs.Prelude.{◌≡◌, ℕ, Bool, true, false, List, [], codes, ⊤}
use Rattle.series_rules.specs.Views.{DeskKind, View}
use Rattle.program_desks.specs.DeskFiles.{DeskFiles, IsMigrated, LastsAlone, LeavesAs}
use Rattle.program_desks.specs.declared.files_left.FilesLeft.{FilesLeft}
use Rattle.program_desks.specs.declared.files_left.FilesLeft.TheVariants.{Closed, Unclosed, Unopened, Untouched}
use Rattle.program_desks.specs.declared.kept_desks.Creation.{Creation}
use Rattle.program_desks.specs.declared.kept_desks.Creation.TheVariants.{Anywhere, InEmpty}
use Rattle.program_desks.specs.declared.kept_desks.Migration.{Migration}
use Rattle.program_desks.specs.declared.kept_desks.Migration.TheVariants.{Migrated, Unneeded}
use Rattle.program_clients.specs.Printing.{PrintEnds}

-- no file of a desk was touched: what opens them is handed back, and nothing can make that anew
abbrev pub IsUntouched : {K N U C : Type 0} → FilesLeft K N U C → Type 0
IsUntouched (Untouched databases) = ⊤
IsUntouched _ = ⊥

-- the files in which a command makes a desk that may change one, by whether they have to be there
abbrev pub creation_by : Bool → Creation
creation_by true = InEmpty
creation_by false = Anywhere

-- the line that says what a migration did
abbrev pub migration_line : Migration → List ℕ
migration_line Migrated = codes "migrated\n"
migration_line Unneeded = codes "schema 2\n"

-- Files: what is seen of the files that are opened. Written: these bytes were written
module _ {K : Type 0} {k : DeskKind} {C U N : Type 0} (files : DeskFiles K k C U N) (databases : K)
    (name : List ℕ) (creation : Creation) (written : List ℕ → Type 0) where
  -- How a command can end over the desk in the files of that name. It ended so, by what was found
  -- in them and what they hold now: closed, they hold one thing, and so a crash leaves them; if
  -- they could not be closed, the status is 3 in the place of its own. Else the desk was not
  -- opened, as no files are that may not be taken for one: the status is 3, nothing is written,
  -- and the files are spared. Ends: how it ended over a desk that was seen so at first, and so at
  -- last
  abbrev pub EndsOverFiles : (View k → View k → ℕ → Type 0) → ℕ → FilesLeft K N U C → Type 0
  EndsOverFiles ends status (Closed closed) =
      ends (files.found databases name creation) (files.closed closed) status
      × LastsAlone files closed
  EndsOverFiles ends status (Unclosed left) =
      (status ≡ 3) × (own : ℕ)
      × ends (files.found databases name creation) (files.unclosed left) own
  EndsOverFiles ends status (Unopened left) =
      (status ≡ 3) × written [] × files.spared databases name creation left
  EndsOverFiles ends status _ = ⊥

  -- How the command `migrate` can end over them. The desk was brought to the present version, and
  -- the line of that is written with 0, or a first part of it with 3; or the status is 3, nothing
  -- is written, and the files are spared.
  abbrev pub MigrateEnds : ℕ → FilesLeft K N U C → Type 0
  MigrateEnds status (Closed closed) =
      (did : Migration) × IsMigrated files databases name creation did closed
      × PrintEnds 0 written (migration_line did) status
  MigrateEnds status (Unopened left) =
      (status ≡ 3) × written [] × files.unmigrated databases name creation left
  MigrateEnds status _ = ⊥

-- within a command: a desk was closed behind what ended with `own`, or its files could not be
abbrev pub Closes : {K : Type 0} → {k : DeskKind} → {C U N : Type 0} → DeskFiles K k C U N
    → View k → ℕ → ℕ → FilesLeft K N U C → Type 0
Closes files desk own status (Closed closed) =
    (status ≡ own) × LeavesAs desk (files.closed closed) × LastsAlone files closed
Closes files desk own status (Unclosed left) = (status ≡ 3) × LeavesAs desk (files.unclosed left)
Closes files desk own status _ = ⊥
