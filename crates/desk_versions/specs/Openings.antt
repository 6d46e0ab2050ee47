-- What is found where a desk is opened, and what opening it leaves.
use Rattle.std.specs.Prelude.{◌≡◌, ◌⊎◌, ℕ, true, false, List, [], Option, Some, None, Result, IfOk, IfErr, OnOk, IsTrue, ⊤}
use Rattle.std.specs.List.{list_any}
use Rattle.sqlite.specs.Effect.{Database, IsDatabase}
use Rattle.sqlite.specs.Files.{AreFoundIn, HoldsDatabase, IsNothing, LeavesFiles, over_files}
use Rattle.sqlite.specs.State.{State, HasCleanDisk}
use Rattle.sqlite.specs.declared.file.Leftover.{Leftover}
use Rattle.sqlite.specs.declared.file.Leftover.TheVariants as leftover
use Rattle.sqlite_disk.specs.Disk.{MoreFaults}
use Rattle.sqlite_disk.specs.declared.Disk as disk
use Rattle.sqlite_disk.specs.declared.Files.{Files}
use Rattle.sqlite_trees.specs.Tree.{Trees}
use Rattle.sqlite_wal.specs.Recovery.{Image}
use Rattle.desk_tables.specs.Meta.{HoldsMeta, version_among}
use Rattle.desk_tables.specs.Rows.{DeskRows, Holds, HoldsFirst, HoldsUnindexed, MetaRow, first_rows}
use Rattle.desk_tables.specs.Schema.{is_meta, lacks_index, schema_0}
use Rattle.desk_tables.specs.Transactions.{IsEmptied, LeavesOnly}
use Rattle.onix_records.specs.declared.faults.StoreFault.{StoreFault}
use Rattle.series_rules.specs.declared.requests.Request.{Request}
use Rattle.desk_rows.specs.Desks.{AreRowsOf, HoldsSecond}
use Rattle.desk_versions.specs.declared.opening.OpenFault.{OpenFault}
use Rattle.desk_versions.specs.declared.opening.OpenFault.TheVariants.{Store, OtherVersion}

-- while the connection is open, it is in no transaction, and that database is what it shows and
-- what was committed
abbrev pub ShowsOnly : Database → State → Type 0
ShowsOnly db s = IsTrue s.is_open → (s.in_transaction ≡ false) × (s.now ≡ db) × (s.committed ≡ db)

-- what a crash may leave is the database, and nothing else
abbrev pub LeavesOne : (Trees → Type 0) → Database → Type 0
LeavesOne left db = (d : Trees) → left d → d ≡ db.trees

-- the trees are those of a database for which that holds
abbrev pub AreTreesOf : (Database → Type 0) → Trees → Type 0
AreTreesOf Is d = (db : Database) × (db.trees ≡ d) × Is db

-- the database is a desk's, of version 2 or of version 1, with these rows
abbrev pub HoldsAny : Database → DeskRows → Type 0
HoldsAny db rows = HoldsSecond db rows ⊎ HoldsFirst db rows

-- The database says that version, or none: the version is that of the table `meta` of a desk
-- alone, as far as its rows can be read, whatever tables stand beside it.
abbrev pub SaysVersion : Database → Option ℕ → Type 0
SaysVersion db None = list_any is_meta db.schema.tables ≡ false
SaysVersion db (Some version) =
    (list_any is_meta db.schema.tables ≡ true)
    × ((meta : List MetaRow) → HoldsMeta db meta → version_among meta ≡ Some version)

-- ---- steps

-- The version of the tables was asked for: it changes nothing, whatever the tables are.
pub record IsVersionRead (old new : State) (result : Result (Option ℕ) StoreFault) : Type 0 where
  pub premise : HasCleanDisk new → HasCleanDisk old
  pub is_open : HasCleanDisk new
      → OnOk result (IsTrue new.is_open ⊎ MoreFaults old.faults new.faults)
  pub tells : HasCleanDisk new → (db : Database) → ShowsOnly db old → IfOk result (SaysVersion db)
  pub left : HasCleanDisk new → (db : Database) → ShowsOnly db old → ShowsOnly db new
  pub crash : HasCleanDisk new → (db : Database) → ShowsOnly db old → (d : Trees) → new.may_leave d
      → old.may_leave d

-- Tables were made in one transaction: a database that was `Before` became one that is `After`,
-- all at once.
pub record MakesAll (Before After : Database → Type 0) (old new : State)
    (result : Result ⊤ StoreFault) : Type 0 where
  pub premise : HasCleanDisk new → HasCleanDisk old
  pub ok : HasCleanDisk new → (db : Database) → ShowsOnly db old → Before db
      → OnOk result ((made : Database) × ShowsOnly made new × After made)
  pub crash : HasCleanDisk new → (db : Database) → ShowsOnly db old → Before db → (d : Trees)
      → new.may_leave d → old.may_leave d ⊎ AreTreesOf After d
  pub alone : HasCleanDisk new → OnOk result (IsTrue new.is_open × LeavesOnly new)
  -- nothing is made over a connection that is shut, whatever it had
  pub was_open : HasCleanDisk new → OnOk result (IsTrue old.is_open)
  pub spares : HasCleanDisk new → (d : Trees) → new.may_leave d
      → old.may_leave d ⊎ IsTrue old.is_open

-- The tables were made in a database that had none: all of them or none.
abbrev pub IsCreated : State → State → Result ⊤ StoreFault → Type 0
IsCreated old new result = MakesAll (IsEmptied schema_0) (λ db. Holds db first_rows) old new result

-- The index was made in tables that lacked it.
abbrev pub IsIndexed : State → State → Result ⊤ StoreFault → Type 0
IsIndexed old new result = (rows : DeskRows)
    → MakesAll (λ db. HoldsUnindexed db rows) (λ db. Holds db rows) old new result

-- ---- what is made of a database that was found

-- A way in which a database becomes a desk's of version 2: the version that it takes; which of that
-- version stay, and which are changed; whether tables are made where there are none; and what is
-- made of rows.
pub record Way : Type 1 where
  pub version : ℕ
  pub stays : Database → Type 0
  pub changes : Database → Type 0
  pub creates : Type 0
  pub made : Database → DeskRows → Database → Type 0

-- of rows without the index the same are made with it
abbrev pub MakesIndex : Database → DeskRows → Database → Type 0
MakesIndex db rows made = HoldsUnindexed db rows × Holds made rows

-- a desk is opened
abbrev pub opening : ⊤ → Way
opening done = record {
  version = 2;
  stays = λ db. lacks_index db.schema ≡ false;
  changes = λ db. lacks_index db.schema ≡ true;
  creates = ⊤;
  made = MakesIndex;
}

-- What comes of a database, by what was found in it: it stays, or something is made of its rows, or
-- the tables of no request are made where there was no table. `Ends` is said of what is there then:
-- a database for which this holds. Of other programs' tables nothing more is said.
abbrev pub ByFound : Way → Database → ((Database → Type 0) → Type 0) → Type 0
ByFound way db Ends =
    (SaysVersion db (Some way.version) × way.stays db × Ends (λ now. now ≡ db))
    ⊎ ((SaysVersion db (Some way.version) × way.changes db
    × ((rows : DeskRows) → HoldsAny db rows → Ends (way.made db rows)))
    ⊎ (SaysVersion db None × way.creates
    × (IsEmptied schema_0 db → Ends (λ now. Holds now first_rows))))

-- a database for which that holds is shown, and is all that a crash leaves
abbrev pub IsThere : State → (Database → Type 0) → Type 0
IsThere s Is = (now : Database) × Is now × ShowsOnly now s × LeavesOne s.may_leave now

-- a crash leaves what was found, or, whole, a database for which that holds
abbrev pub MayBeLeft : Database → (Trees → Type 0) → (Database → Type 0) → Type 0
MayBeLeft db left Is = (d : Trees) → left d → (d ≡ db.trees) ⊎ AreTreesOf Is d

-- It was done: such a database is shown, and is all that a crash leaves; or the disk failed once
-- the version was read, which shut the connection, and what was found is left.
abbrev pub IsDone : Way → Database → State → Type 0
IsDone way db s =
    (IsTrue s.is_open × ByFound way db (IsThere s))
    ⊎ ((s.is_open ≡ false) × MoreFaults 0 s.faults × SaysVersion db (Some way.version)
    × LeavesOne s.may_leave db)

-- It may not have been done: a crash leaves what was found, or else, whole, such a database.
abbrev pub IsLeft : {A : Type 0} → (A → Way) → Database → (Trees → Type 0) → Type 0
IsLeft {A} ways db left =
    LeavesOne left db ⊎ ((a : A) × ByFound (ways a) db (MayBeLeft db left))

-- the fault is that another version was found
abbrev pub IsOther : OpenFault → Type 0
IsOther (Store fault) = ⊥
IsOther (OtherVersion found) = ⊤

-- a fault is true of what was found: another version is what that tells, it is not taken, and is
-- left as it was
abbrev pub IsFaultOf : {A : Type 0} → (A → Way) → Database → (Trees → Type 0) → OpenFault → Type 0
IsFaultOf ways db left (Store fault) = ⊤
IsFaultOf {A} ways db left (OtherVersion found) =
    SaysVersion db (Some found) × LeavesOne left db × ((a : A) → ¬ (found ≡ (ways a).version))

-- what a crash may leave of a connection that was just opened, and the fault is true of what it
-- showed
abbrev pub LeavesShown : {A : Type 0} → (A → Way) → State → (Trees → Type 0) → OpenFault → Type 0
LeavesShown ways old left fault =
    IsTrue old.is_open → (db : Database) → ShowsOnly db old
    → IsLeft ways db left × IsFaultOf ways db left fault

-- The database of a connection that was just opened became a desk's of version 2 in one of these
-- ways, or did not.
pub record Becomes {A : Type 0} (ways : A → Way) (old new : State) (result : Result A OpenFault)
    : Type 0 where
  pub premise : HasCleanDisk new → HasCleanDisk old
  pub done : HasCleanDisk new → IsTrue old.is_open → (db : Database) → ShowsOnly db old
      → IfOk result (λ a. IsDone (ways a) db new)
  pub left : HasCleanDisk new → IfErr result (LeavesShown ways old new.may_leave)

-- ---- files

-- the files hold a database, which is one of these
abbrev pub HoldSuch : (Database → Type 0) → Image → Type 0
HoldSuch Is image = (db : Database) × ∥ HoldsDatabase image db.trees ∥₁ × IsDatabase db × Is db

-- The two files hold an empty database: `sqlite` says that none was made of them yet, or they hold
-- a sound one that has no table.
abbrev pub AreEmptyFiles : Image → Type 0
AreEmptyFiles image = IsNothing image ⊎ HoldSuch (IsEmptied schema_0) image

-- the two files hold the rows of what those requests come to
abbrev pub HoldRowsOf : Image → List Request → Type 0
HoldRowsOf image L = (trees : Trees) × ∥ HoldsDatabase image trees ∥₁ × AreRowsOf trees L

-- The two files hold what those requests come to, or they hold an empty database and the requests
-- are none.
abbrev pub AreFilesOf : Image → List Request → Type 0
AreFilesOf image L = HoldRowsOf image L ⊎ (AreEmptyFiles image × (L ≡ []))

-- the trees are what the files recover to, or there was no database and they are empty; of files
-- that hold a database, they are that
abbrev pub AreFoundAs : Image → Trees → Type 0
AreFoundAs image d = AreFoundIn image d × ((db : Trees) → HoldsDatabase image db → d ≡ db)

-- a database is found in the files for which that holds
abbrev pub FindsSuch : Image → (Database → Type 0) → Type 0
FindsSuch image Is = (db : Database) × IsDatabase db × AreFoundAs image db.trees × Is db

-- a desk was opened of what is found in the files
abbrev pub TakesFound : Image → State → Type 0
TakesFound image s = FindsSuch image (λ db. IsDone (opening tt) db s)

-- what a crash may leave of a store that was made of the files: what was found, or, whole, what was
-- to be made of it
abbrev pub SparesFiles : {A : Type 0} → (A → Way) → Image → (Trees → Type 0) → Type 0
SparesFiles ways image left =
    ((d : Trees) → left d → AreFoundAs image d) ⊎ FindsSuch image (λ db. IsLeft ways db left)

-- What is left of two files after a fault. `image`: what they held; `IsStart`: they were these. Of
-- a store that was made of them, as `SparesFiles` says; of files that no store was made of, what
-- `sqlite` says.
abbrev pub KeepsFiles : {D A : Type 0} → {g : disk.Ghosts D} → (Files D → Type 0) → (A → Way)
    → Image → Leftover D g → Type 0
KeepsFiles {g = g} IsStart ways image (leftover.Store it) =
    SparesFiles ways image ((over_files {g = g}).recovers it)
KeepsFiles {D = D} {g = g} IsStart ways image left =
    (files : Files D) × IsStart files × LeavesFiles {g = g} files left

-- a store is left of the files, and that holds of what a crash may leave of it
abbrev pub KeepsStore : {D : Type 0} → {g : disk.Ghosts D} → ((Trees → Type 0) → Type 0)
    → Leftover D g → Type 0
KeepsStore {g} Leaves (leftover.Files files) = ⊥
KeepsStore {g} Leaves (leftover.Unopened files) = ⊥
KeepsStore {g} Leaves (leftover.Store it) = Leaves ((over_files {g = g}).recovers it)

-- what a crash may leave of a store that is left of files. Of files that no store was made of it
-- may be anything
abbrev pub left_in : {D : Type 0} → {g : disk.Ghosts D} → Leftover D g → Trees → Type 0
left_in {g} (leftover.Files files) d = ⊤
left_in {g} (leftover.Unopened files) d = ⊤
left_in {g} (leftover.Store it) d = (over_files {g = g}).recovers it d

-- a fault of opening two files, which may have come before anything was found, is true of what is
-- found in them. Left: what a crash may then leave of them
abbrev pub TellsFiles : {A : Type 0} → (A → Way) → Image → (Trees → Type 0) → OpenFault → Type 0
TellsFiles ways image left fault =
    IsOther fault → FindsSuch image (λ db. IsFaultOf ways db left fault)
