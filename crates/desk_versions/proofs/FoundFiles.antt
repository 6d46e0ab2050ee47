-- What the files of a desk hold, against the lists of requests.
use Rattle.std.proofs.Common.{◌≡◌, ◌≤◌, Bool, arith, inl, inr, List, [], Ok, refl, sym, ap, ◌∙◌, subst}
use Rattle.std.specs.Prelude.{false, true, IfSome, IsTrue, None, Option, Some}
use Rattle.std.proofs.Math.Logic.{∥∥₁_elim}
use Rattle.sqlite.specs.Effect.{Database, IsDatabase}
use Rattle.sqlite.specs.Files.{HoldsDatabase, IsCleanLeft, LeavesFiles, image_of, over_files}
use Rattle.sqlite.specs.declared.file.Leftover.{Leftover}
use Rattle.sqlite.specs.declared.file.Leftover.TheVariants as leftover
use Rattle.sqlite_disk.specs.declared.Disk as disk
use Rattle.sqlite_disk.specs.declared.Files.{Files}
use Rattle.sqlite.specs.State.{State, HasCleanDisk, IsLive, Opens}
use Rattle.sqlite_trees.specs.Props.{Trees-set}
use Rattle.sqlite_trees.proofs.Doubt.{no_doubt}
use Rattle.sqlite_trees.specs.Tree.{Trees}
use Rattle.sqlite_trees.specs.View.{doubt}
use Rattle.sqlite_wal.specs.Recovery.{Image}
use Rattle.desk_tables.proofs.OneSchema.{emptied_again, first_holds_again, holds_again, same_tables, unindexed_holds_again}
use Rattle.desk_tables.specs.Rows.{DeskRows}
use Rattle.desk_tables.specs.Schema.{schema_0}
use Rattle.desk_tables.specs.Transactions.{IsEmptied}
use Rattle.series_rules.specs.declared.requests.Request.{Request}
use Rattle.desk_rows.specs.Desks.{AreRowsOf, HoldsSecond, KeepsRequests}
use Rattle.desk_versions.specs.Creation.{AreRefused, takes}
use Rattle.desk_versions.specs.declared.opening.Creation.{Creation}
use Rattle.desk_versions.specs.Migrations.{AreFilesOfEither, AreMigrated, IsHeld}
use Rattle.desk_versions.specs.Openings.{AreEmptyFiles, AreFilesOf, AreFoundAs, Becomes, ByFound, FindsSuch, HoldRowsOf, IsDone, IsFaultOf, IsLeft, IsOther, IsThere, KeepsFiles, KeepsStore, LeavesShown, ShowsOnly, TakesFound, TellsFiles, Way, left_in, opening}
use Rattle.desk_versions.specs.declared.version_two.MigrateAnswer.{MigrateAnswer}
use Rattle.desk_versions.specs.declared.opening.OpenFault.{OpenFault}
use Rattle.desk_versions.specs.declared.opening.OpenFault.TheVariants.{Store, OtherVersion}
use Rattle.desk_rows.proofs.ComesTo.{stored}
use Rattle.desk_versions.proofs.EmptyFiles.{bare_is_emptied, nothing_found}
use Rattle.desk_versions.proofs.FoundTables.{IsFoundFor, by_found, done_stands, no_meta, tells_both}
use Rattle.desk_versions.proofs.MigratedTables.{IsOfRequests, brought_stands}

-- a connection that was just opened
pub opened_shows : (s : State) → Opens s → ShowsOnly s.now s
opened_shows s opens = λ up. (opens.autocommit, refl, sym opens.clean)

false_is_true : false ≡ true → ⊥
false_is_true e = absurd cc

-- ---- a database that was found, against what the files hold

module _ (image : Image) (db : Database) (sound : IsDatabase db) (found : AreFoundAs image db.trees) where
  same_trees : (trees : Trees) → ∥ HoldsDatabase image trees ∥₁ → db.trees ≡ trees
  same_trees trees both = ∥∥₁_elim both (Trees-set _ _) (found.1 trees)

  found_empty : AreEmptyFiles image → IsEmptied schema_0 db
  found_empty (inl nothing) = bare_is_emptied db sound (nothing_found image nothing db.trees found.0)
  found_empty (inr (it, both, is, none)) = emptied_again it db is none sound (same_trees it.trees both)

  -- rows of version 2 were found, with the index or without it
  found_second : (it : Database) (rows : DeskRows) → db.trees ≡ it.trees → HoldsSecond it rows → HoldsSecond db rows
  found_second it rows same (inl held) = inl (holds_again it db rows held sound same)
  found_second it rows same (inr held) = inr (unindexed_holds_again it db rows held.0 sound same, held.1)

  pub found_for : (L : List Request) → AreFilesOf image L → IsFoundFor db L
  found_for L (inl (trees, both, (it, same, (rows, held, stands)))) = inl (rows, found_second it rows (same_trees trees both ∙ sym same) held, stands)
  found_for L (inr (empty, none)) = inr (found_empty empty, none)

  pub found_either : (L : List Request) → AreFilesOfEither image L → IsOfRequests db L
  found_either L (inl (it, both, (rows, first, stands))) = inl (rows, first_holds_again it db rows first sound (same_trees it.trees both), stands)
  found_either L (inr are) = inr (found_for L are)

  -- what is taken is not to be refused
  pub found_taken : (creation : Creation) → takes creation db.schema.tables ≡ true → ¬ AreRefused creation image
  found_taken creation taken (inl (it, both, is, other)) =
      false_is_true (sym other ∙ ap (takes creation) (same_tables db it sound is (sym (same_trees it.trees both))) ∙ taken)
  found_taken creation taken (inr (nothing, other)) =
      false_is_true (sym other ∙ subst (λ s. takes creation s.tables ≡ true) (found_empty (inl nothing)).schema_is taken)

-- a desk that was opened of files is of their requests
pub taken_stands : (image : Image) (s : State) → TakesFound image s → (L : List Request) → AreFilesOf image L → KeepsRequests s L × ((d : Trees) → s.may_leave d → AreRowsOf d L)
taken_stands image s (db, sound, found, done) L are = done_stands db L s done (found_for image db sound found L are)

-- so are files that were brought to version 2
pub migrated_hold : (answer : MigrateAnswer) (image after : Image) → AreMigrated answer image after → (L : List Request) → AreFilesOfEither image L → HoldRowsOf after L
migrated_hold answer image after (db, sound, found, brought) L are =
    let it = brought_stands answer db (λ now. ∥ HoldsDatabase after now.trees ∥₁) L brought (found_either image db sound found L are) in (it.0.trees, it.1, (it.0, refl, it.2))

-- ---- a connection over files

-- what is found in the files is what a connection that was just opened shows
module _ (image : Image) (s0 : State) (opened : HasCleanDisk s0 → Opens s0 × IsLive s0) (found : HasCleanDisk s0 → AreFoundAs image s0.committed.trees) where
  pub finds : (Is : Database → Type 0) → HasCleanDisk s0 → (IsTrue s0.is_open → ShowsOnly s0.now s0 → Is s0.now) → FindsSuch image Is
  finds Is clean is =
      let it = opened clean in
      (s0.now, (it.1 it.0.is_open).0, subst (λ (x : Database). AreFoundAs image x.trees) (sym it.0.clean) (found clean), is it.0.is_open (opened_shows s0 it.0))

  pub files_chosen : (creation : Creation) → takes creation s0.now.schema.tables ≡ true → HasCleanDisk s0 → ¬ AreRefused creation image
  files_chosen creation taken clean = let it = finds (λ db. takes creation db.schema.tables ≡ true) clean (λ up only. taken) in found_taken image it.0 it.1 it.2 creation it.3

  pub files_take : (s1 : State) → Becomes opening s0 s1 (Ok tt) → HasCleanDisk s1 → TakesFound image s1
  files_take s1 became clean = finds (λ db. IsDone (opening tt) db s1) (became.premise clean) (λ up only. became.done clean up s0.now only)

  -- a store is left of them
  module _ {A D : Type 0} {g : disk.Ghosts D} (ways : A → Way) (fault : OpenFault) (clean : HasCleanDisk s0) where
    pub files_left : (IsStart : Files D → Type 0) (left : Leftover D g) → KeepsStore {g = g} (λ left. LeavesShown ways s0 left fault) left → KeepsFiles {g = g} IsStart ways image left
    files_left IsStart (leftover.Files files) kept = absurd kept
    files_left IsStart (leftover.Unopened files) kept = absurd kept
    files_left IsStart (leftover.Store it) kept = inr (finds (λ db. IsLeft ways db ((over_files {g = g}).recovers it)) clean (λ up only. (kept up s0.now only).0))

    pub files_tell : (left : Leftover D g) → KeepsStore {g = g} (λ left. LeavesShown ways s0 left fault) left → TellsFiles ways image (left_in {g = g} left) fault
    files_tell (leftover.Files files) kept = absurd kept
    files_tell (leftover.Unopened files) kept = absurd kept
    files_tell (leftover.Store it) kept = λ other. finds (λ db. IsFaultOf ways db ((over_files {g = g}).recovers it) fault) clean (λ up only. (kept up s0.now only).1)

-- ---- a connection to nothing

module _ (s0 : State) (opens : Opens s0) (empty : s0.now.schema ≡ schema_0) where
  emptied : IsEmptied schema_0 s0.now
  emptied = record { schema_is = empty; empty = tt }

  done : (s1 : State) → Becomes opening s0 s1 (Ok tt) → HasCleanDisk s1 → IsDone (opening tt) s0.now s1
  done s1 became clean = became.done clean opens.is_open s0.now (opened_shows s0 opens)

  pub new_stands : (s1 : State) → Becomes opening s0 s1 (Ok tt) → HasCleanDisk s1 → KeepsRequests s1 [] × ((d : Trees) → s1.may_leave d → AreRowsOf d [])
  new_stands s1 became clean = done_stands s0.now [] s1 (done s1 became clean) (inr (emptied, refl))

  -- no fault was counted, so it is open
  pub new_is_open : (s1 : State) → s1.faults ≡ 0 → Becomes opening s0 s1 (Ok tt) → HasCleanDisk s1 → IsTrue s1.is_open
  new_is_open s1 none became clean = go (done s1 became clean)
    where
      go : IsDone (opening tt) s0.now s1 → IsTrue s1.is_open
      go (inl (up, found)) = up
      go (inr (shut, more, told, alone)) = absurd (omega (arith, none, more))

  pub new_fault : (left : Trees → Type 0) (fault : OpenFault) → LeavesShown opening s0 left fault → ¬ IsOther fault
  new_fault left (Store e) leaves other = other
  new_fault left (OtherVersion found) leaves other = tells_both s0.now found (leaves opens.is_open s0.now (opened_shows s0 opens)).1.0 (no_meta s0.now emptied)

-- ---- files of which no connection was made

pub unopened_kept : {A D : Type 0} {g : disk.Ghosts D} (IsStart : Files D → Type 0) (ways : A → Way) (files : Files D) (left : Leftover D g) → IsStart files → LeavesFiles files left → KeepsFiles {g = g} IsStart ways (image_of g files) left
unopened_kept IsStart ways files (leftover.Files now) start unharmed = (files, start, unharmed)
unopened_kept IsStart ways files (leftover.Unopened now) start unharmed = (files, start, unharmed)
unopened_kept IsStart ways files (leftover.Store it) start unharmed = inl unharmed

-- the same of files at a path, which nothing has happened to yet
pub start_kept : {A D : Type 0} {g : disk.Ghosts D} (IsLog IsDb : Files D → Type 0) (ways : A → Way) (image : Image) → ((files : Files D) → IsLog files → IsDb files → image_of g files ≡ image) → (Fails : Files D → Leftover D g → Type 0)
    → (rest : Option (Leftover D g)) → IfSome rest (λ left. (files : Files D) × IsLog files × IsDb files × (IsCleanLeft left → Fails files left × LeavesFiles files left))
    → IfSome rest (λ left. IsCleanLeft left → KeepsFiles (λ files. IsLog files × IsDb files) ways image left)
start_kept IsLog IsDb ways image seen Fails None cause = tt
start_kept IsLog IsDb ways image seen Fails (Some left) (files, log, db, cause) = λ clean.
    subst (λ i. KeepsFiles (λ files. IsLog files × IsDb files) ways i left) (seen files log db) (unopened_kept (λ files. IsLog files × IsDb files) ways files left (log, db) (cause clean).1)

-- files that were closed
pub closed_hold : (image : Image) (s : State) (L : List Request) → IsTrue s.is_open → ∥ HoldsDatabase image s.committed.trees ∥₁ → KeepsRequests s L → HoldRowsOf image L
closed_hold image s L up both keeps = (s.committed.trees, both, (s.committed, refl, stored s.committed L (keeps up).2))

-- so it is with what a migration made of what was found
pub closed_done : (image : Image) (s : State) (way : Way) (db : Database) → IsTrue s.is_open → ∥ HoldsDatabase image s.committed.trees ∥₁ → IsDone way db s → ByFound way db (IsHeld image)
closed_done image s way db up both (inl (now, found)) = by_found way db (IsThere s) (IsHeld image) (λ Is it. (it.0, it.1, subst (λ (x : Database). ∥ HoldsDatabase image x.trees ∥₁) (it.2 up).2 both)) found
closed_done image s way db up both (inr (shut, more, told, alone)) = absurd (false_is_true (sym shut ∙ up))

-- a store that is clean was clean
pub still_clean : (s : State) (b : Bool) → doubt s.is_clean ≤ doubt b → IsTrue b → HasCleanDisk s
still_clean s b le clean = omega (arith, let sure = no_doubt b clean in sure)
