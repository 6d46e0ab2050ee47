-- What two files are to a desk that is opened of them, and that is closed.
use Rattle.std.proofs.Common.{◌≡◌, ◌⊎◌, ◌∙◌, None, Some, true, false, List, arith, ap, inl, inr, refl, subst, sym}
use Rattle.std.proofs.Math.Logic.{∥∥₁_elim}
use Rattle.std.specs.List.{list_any}
use Rattle.sqlite.specs.Closing.{IsCopied}
use Rattle.sqlite.specs.Effect.{Database, IsDatabase}
use Rattle.sqlite.specs.Files.{HoldsDatabase, IsClosed, file_state, image_of}
use Rattle.sqlite.specs.Held.{Held}
use Rattle.sqlite.specs.State.{HasCleanDisk, State}
use Rattle.sqlite_disk.specs.declared.Disk.{Ghosts}
use Rattle.sqlite_disk.specs.declared.Files.{Files}
use Rattle.sqlite_store.specs.declared.store.FileStore.{FileStore}
use Rattle.sqlite_trees.specs.Props.{Trees-set}
use Rattle.sqlite_trees.specs.Tree.{Trees}
use Rattle.sqlite_wal.specs.Reads.{AreClean}
use Rattle.sqlite_wal.specs.Recovery.{Image}
use Rattle.desk_tables.proofs.MetaAlone.{has_its_meta, meta_again}
use Rattle.desk_tables.proofs.MissingIndex.{lacks_again}
use Rattle.desk_tables.proofs.OneSchema.{no_meta_again}
use Rattle.desk_tables.specs.Meta.{HoldsMeta, version_among}
use Rattle.desk_tables.specs.Rows.{MetaRow}
use Rattle.desk_tables.specs.Schema.{is_meta, lacks_index}
use Rattle.series_rules.specs.Content.{SameContent}
use Rattle.series_rules.specs.Views.{LeavesOnly}
use Rattle.series_rules.specs.declared.requests.Request.{Request}
use Rattle.desk_rows.proofs.ComesTo.{come_rows, rows_come, stored}
use Rattle.desk_rows.specs.Desks.{AreRowsOf, KeepsRequests}
use Rattle.desk_versions.proofs.FoundTables.{done_tells}
use Rattle.desk_versions.specs.Creation.{AreRefused}
use Rattle.desk_versions.specs.Openings.{AreFilesOf, AreFoundAs, HoldRowsOf, IsDone, SaysVersion, TakesFound, opening}
use Rattle.desk_rows.specs.Seen.{seen_in}
use Rattle.program_desks.specs.DeskFiles.{LeavesAs, OpensAs}
use Rattle.program_desks.specs.declared.kept_desks.Creation.{Creation}
use Rattle.program_databases.specs.FileViews.{HoldMeta, MayBeTaken, seen_files, seen_image, seen_store}
use Rattle.program_databases.specs.Found.{store_creation}

pub same_refl : (L : List Request) → SameContent L L
same_refl L = record { agreements = λ name. refl; firsts = λ series number. refl }

-- ---- opened

-- the trees that were found are those that the files hold
pub found_trees : (image : Image) (d was : Trees) → ∥ HoldsDatabase image d ∥₁ → AreFoundAs image was → was ≡ d
found_trees image d was both found = ∥∥₁_elim both (Trees-set _ _) (found.1 d)

no_bool : true ≡ false → ⊥
no_bool e = absurd cc

-- a database with a table `meta` that was found is what the desk that was opened holds
holds_found : (db was : Database) → IsDatabase db → IsDatabase was → db.trees ≡ was.trees → list_any is_meta db.schema.tables ≡ true → lacks_index db.schema ≡ false → (s : State) → IsDone (opening tt) was s → (seen_in s).holds was.trees
holds_found db was sound found same meta whole s (inl (still, inl (tells, stays, (now, is, shown, alone)))) = λ up. ap (λ (x : Database). x.trees) ((shown up).2 ∙ is)
holds_found db was sound found same meta whole s (inl (still, inr (inl (tells, lacks, made)))) = absurd (no_bool (sym lacks ∙ lacks_again db was sound found (sym same) ∙ whole))
holds_found db was sound found same meta whole s (inl (still, inr (inr (none, creates, made)))) = absurd (no_bool (sym meta ∙ no_meta_again was db found none sound same))
holds_found db was sound found same meta whole s (inr (shut, more, told, alone)) = λ up. absurd (no_bool (sym up ∙ shut))

holds_meta : (image : Image) (s : State) → TakesFound image s → (d : Trees) → HoldMeta image d → (seen_in s).holds d
holds_meta image s (was, found, as_found, done) d (db, sound, trees, both, meta, whole) =
    let same : was.trees ≡ d = found_trees image d was.trees both as_found in
    subst (seen_in s).holds same (holds_found db was sound found (trees ∙ sym same) meta whole s done)

-- the version that was told is that of each table `meta` that the files hold
tells_version : (was : Database) (meta : List MetaRow) → HoldsMeta was meta → SaysVersion was None ⊎ SaysVersion was (Some 2) → version_among meta ≡ Some 2
tells_version was meta has (inl none) = absurd (no_bool (sym (has_its_meta was meta has) ∙ none))
tells_version was meta has (inr tells) = tells.1 meta has

-- what was taken for a desk may be taken for one
may_be_taken : (image : Image) (creation : Creation) (s : State) → TakesFound image s → ¬ AreRefused (store_creation creation) image → MayBeTaken image creation
may_be_taken image creation s (was, sound, found, done) may = record {
  found = (was.trees, found);
  version = λ db both meta has. tells_version was meta (meta_again db was meta has sound (found_trees image db.trees was.trees both found)) (done_tells was s done);
  taken = may;
}

-- a desk that was opened comes to what the files held
pub opens_as : (image : Image) (creation : Creation) (s : State)
    → (HasCleanDisk s → (L : List Request) → AreFilesOf image L → KeepsRequests s L)
    → (HasCleanDisk s → (L : List Request) → AreFilesOf image L → (d : Trees) → s.may_leave d → AreRowsOf d L)
    → (HasCleanDisk s → TakesFound image s) → (HasCleanDisk s → ¬ AreRefused (store_creation creation) image) → OpensAs (seen_image image creation) (seen_in s)
opens_as image creation s stands alone taken may = record {
  premise = λ sound. may_be_taken image creation s (taken sound) (may sound);
  stands = λ sound M files. (seen_in s).by_content files.0 M files.2 (stands sound files.0 files.1);
  alone = λ sound M files d may. (files.0, alone sound files.0 files.1 d may, files.2);
  all = λ d each L files. come_rows d L (each L (L, files, same_refl L));
  holds = λ sound d held. holds_meta image s (taken sound) d held;
}

-- ---- closed

-- files that were closed leave the last commit alone
closed_alone : {D : Type 0} (g : Ghosts D) (c : Held (FileStore D g)) (files : Files D) → IsCopied c files → (M : List Request) → KeepsRequests (file_state c) M → LeavesOnly (seen_files g files) M
closed_alone g c files copied M keeps = λ d may.
    let same : d ≡ (file_state c).committed.trees = ∥∥₁_elim (copied.left may.0 may.1).both (Trees-set _ _) (may.2.1 (file_state c).committed.trees) in
    rows_come d M (subst (λ x. AreRowsOf x M) (sym same) ((file_state c).committed, refl, stored (file_state c).committed M (keeps copied.was_open).2))

pub left_closed : {D : Type 0} (g : Ghosts D) (c : Held (FileStore D g)) (files : Files D)
    → (AreClean g files.log files.db → IsCopied c files × ((L : List Request) → KeepsRequests (file_state c) L → HoldRowsOf (image_of g files) L))
    → LeavesAs (seen_in (file_state c)) (seen_files g files)
left_closed g c files closes = record {
  premise = λ sound. (closes sound).0.was_clean;
  stands = λ sound M keeps. (M, (closes sound).1 M keeps, same_refl M);
  left = λ sound. inr (λ M keeps. closed_alone g c files (closes sound).0 M keeps);
  holds = λ sound d held. let copied = (closes sound).0 in subst (λ x. ∥ HoldsDatabase (image_of g files) x ∥₁) (held copied.was_open) copied.seen.both;
}

pub left_unclosed : {D : Type 0} (g : Ghosts D) (c : Held (FileStore D g)) (store : FileStore D g) → IsClosed c store → LeavesAs (seen_in (file_state c)) (seen_store store)
left_unclosed g c store closes = record {
  premise = λ sound. omega (arith, closes.quiet.clean, sound);
  stands = λ sound M keeps. tt;
  left = λ sound. inl (λ x may. closes.quiet.outcomes x may);
  holds = λ sound d held. tt;
}
