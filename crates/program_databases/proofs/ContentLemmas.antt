-- Whatever lists of requests two files are found to hold, the content is one.
use Rattle.std.proofs.Common.{◌≡◌, ◌⊎◌, ◌∷◌, ◌∙◌, [], false, List, inl, inr, refl, subst, sym}
use Rattle.std.specs.Prelude.{Contains}
use Rattle.sqlite.specs.Files.{HoldsDatabase, image_of, over_files}
use Rattle.sqlite_disk.specs.declared.Disk.{Ghosts}
use Rattle.sqlite_disk.specs.declared.Files.{Files}
use Rattle.sqlite_store.specs.declared.store.FileStore.{FileStore}
use Rattle.sqlite_trees.specs.Tree.{Trees}
use Rattle.sqlite_trees.specs.View.{IsClean}
use Rattle.sqlite_wal.specs.Files.{outcomes}
use Rattle.sqlite_wal.specs.Reads.{AreClean}
use Rattle.sqlite_wal.specs.Recovery.{Image}
use Rattle.price_rules.specs.declared.precedence.Rule.{Rule}
use Rattle.desk_tables.specs.Schema.{schema_0}
use Rattle.series_rules.specs.Content.{SameContent, same_trans}
use Rattle.series_rules.specs.Steps.{HasAll, Leads, Step, has_change, in_doubt, with_answered}
use Rattle.series_rules.specs.declared.requests.Request.{Request}
use Rattle.desk_rows.specs.ContentLemmas.{rows_by_content}
use Rattle.desk_rows.proofs.ComesTo.{come_rows}
use Rattle.desk_rows.specs.Desks.{AreRowsOf}
use Rattle.desk_rows.specs.Seen.{in_tables}
use Rattle.desk_stops.proofs.ConnectionLaws.{empty_holds_no_rows}
use Rattle.desk_stops.specs.Connections.{RowsHaveOneContent}
use Rattle.desk_versions.proofs.EmptyFiles.{bare_database, nothing_found}
use Rattle.desk_versions.specs.Openings.{AreEmptyFiles, AreFilesOf, AreFoundAs, HoldRowsOf}
use Rattle.program_desks.specs.declared.kept_desks.Creation.{Creation}
use Rattle.program_databases.proofs.ViewLemmas.{found_trees, same_refl}
use Rattle.program_databases.specs.FileViews.{HoldAlone, MayBeTaken, seen_files, seen_image, seen_store}

same_sym : (L M : List Request) → SameContent L M → SameContent M L
same_sym L M same = record { agreements = λ name. sym (same.agreements name); firsts = λ series number. sym (same.firsts series number) }

module _ (one : RowsHaveOneContent) (image : Image) (d : Trees) (found : AreFoundAs image d) where
  -- the trees that were found are the rows of each list that the files hold rows of
  rows_of : (L : List Request) → HoldRowsOf image L → AreRowsOf d L
  rows_of L (trees, both, rows) = subst (λ t. AreRowsOf t L) (sym (found_trees image trees d both found)) rows

  -- empty files hold the rows of none
  none_of : AreEmptyFiles image → (L : List Request) → AreRowsOf d L → ⊥
  none_of (inl nothing) L rows =
      empty_holds_no_rows d L (record { schema = schema_0; trees = d }, refl, bare_database d (nothing_found image nothing d found.0)) rows
  none_of (inr (db, both, sound, emptied)) L rows =
      empty_holds_no_rows d L (db, sym (found_trees image db.trees d both found), (emptied, sound)) rows

  pub one_of : (L M : List Request) → AreFilesOf image L → AreFilesOf image M → SameContent L M
  one_of L M (inl a) (inl b) = one d L M (rows_of L a) (rows_of M b)
  one_of L M (inl a) (inr b) = absurd (none_of b.0 L (rows_of L a))
  one_of L M (inr a) (inl b) = absurd (none_of a.0 M (rows_of M b))
  one_of L M (inr a) (inr b) = subst (SameContent L) (a.1 ∙ sym b.1) (same_refl L)

pub image_holds_one : RowsHaveOneContent → (image : Image) (creation : Creation) → MayBeTaken image creation → (L M : List Request)
    → (seen_image image creation).stands_for L → (seen_image image creation).stands_for M → SameContent L M
image_holds_one one image creation sound L M (one_list, files, same) (other, also, comes) =
    same_trans L one_list M (same_sym one_list L same)
    (same_trans one_list other M (one_of one image sound.found.0 sound.found.1 one_list other files also) comes)

-- a run that led from files to others hands on of which list they are
pub hands_on : {D : Type 0} (g : Ghosts D) (rules : List Rule) (steps : List Step) (image : Image) (creation : Creation) (now : Files D) (L : List Request)
    → Leads rules steps (seen_image image creation) (seen_files g now) → AreClean g now.log now.db → AreFilesOf image L → AreFilesOf (image_of g now) (with_answered L steps)
hands_on g rules steps image creation now L leads clean are =
    let (M, (trees, both, rows), same) = (leads.follows L (L, are, same_refl L) clean).stands in inl (trees, both, rows_by_content trees M (with_answered L steps) same rows)

-- ---- crashes

-- trees that are what was found are of each list that the files are of
module _ (image : Image) (d : Trees) (found : AreFoundAs image d) (left : Image) (both : ∥ HoldsDatabase left d ∥₁) where
  same_lists : (L : List Request) → AreFilesOf image L → AreFilesOf left L
  same_lists L (inl (trees, holds, rows)) = inl (d, both, subst (λ t. AreRowsOf t L) (sym (found_trees image trees d holds found)) rows)
  same_lists L (inr (inl nothing, none)) =
      let bare = bare_database d (nothing_found image nothing d found.0) in inr (inr (record { schema = schema_0; trees = d }, both, bare.1, bare.0), none)
  same_lists L (inr (inr (db, holds, sound, emptied), none)) =
      inr (inr (db, subst (λ t. ∥ HoldsDatabase left t ∥₁) (found_trees image db.trees d holds found) both, sound, emptied), none)

-- what a crash leaves of closed files is of the same lists, also without its log
pub closed_lists : {D : Type 0} (g : Ghosts D) (now : Files D) (d x : Trees) (left : Image) (L : List Request) → HoldAlone g now x → AreFoundAs (image_of g now) d → AreFilesOf (image_of g now) L → outcomes g now.log now.db left
    → AreFilesOf left L × AreFilesOf (record left { log = [] }) L
closed_lists g now d x left L (seen, outcomes) found are may =
    let same : x ≡ d = sym (found_trees (image_of g now) x d seen.both found) in
    let alone = outcomes left may in (
      same_lists (image_of g now) d found left (subst (λ t. ∥ HoldsDatabase left t ∥₁) same alone.both) L are,
      same_lists (image_of g now) d found (record left { log = [] }) (subst (λ t. ∥ HoldsDatabase (record left { log = [] }) t ∥₁) same alone.alone) L are,
    )

-- so is what it leaves of files that could not be closed, with what was answered
pub unclosed_lists : {D : Type 0} (g : Ghosts D) (rules : List Rule) (steps : List Step) (image : Image) (creation : Creation) (last : FileStore D g) (d : Trees) (left : Image) (L : List Request)
    → Leads rules steps (seen_image image creation) (seen_store last) → IsClean ((over_files {g = g}).view last) → (over_files {g = g}).recovers last d → ∥ HoldsDatabase left d ∥₁ → AreFilesOf image L
    → AreFilesOf left (with_answered L steps) ⊎ (((r : Request) × Contains (in_doubt L steps) r × AreFilesOf left (r ∷ with_answered L steps)) ⊎ ((has_change L steps ≡ false) × AreFilesOf left L))
unclosed_lists g rules steps image creation last d left L leads clean may both are = go ((leads.follows L (L, are, same_refl L) clean).left d may)
  where
    rows_of_left : (M : List Request) → AreRowsOf d M → AreFilesOf left M
    rows_of_left M rows = inl (d, both, rows)

    go : HasAll in_tables (with_answered L steps) (in_doubt L steps) d ⊎ ((has_change L steps ≡ false) × (seen_image image creation).may_leave d)
        → AreFilesOf left (with_answered L steps) ⊎ (((r : Request) × Contains (in_doubt L steps) r × AreFilesOf left (r ∷ with_answered L steps)) ⊎ ((has_change L steps ≡ false) × AreFilesOf left L))
    go (inl (inl comes)) = inl (rows_of_left (with_answered L steps) (come_rows d (with_answered L steps) comes))
    go (inl (inr (r, doubted, comes))) = inr (inl (r, doubted, rows_of_left (r ∷ with_answered L steps) (come_rows d (r ∷ with_answered L steps) comes)))
    go (inr (none, was)) = inr (inr (none, rows_of_left L (was L are)))
