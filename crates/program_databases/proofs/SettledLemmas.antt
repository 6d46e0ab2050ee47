-- What is left of two files that were opened by a name.
use Rattle.std.proofs.Common.{◌≡◌, subst, sym}
use Rattle.sqlite.specs.Files.{LeavesFiles, image_of}
use Rattle.sqlite.specs.declared.file.Leftover.{Leftover}
use Rattle.sqlite.specs.declared.file.Leftover.TheVariants as leftover
use Rattle.sqlite_disk.specs.declared.Disk.{Ghosts}
use Rattle.sqlite_disk.specs.declared.Files.{Files}
use Rattle.sqlite_wal.specs.Recovery.{Image}
use Rattle.desk_versions.specs.Creation.{AreRefused}
use Rattle.desk_versions.specs.Openings.{KeepsFiles, Way}
use Rattle.desk_versions.specs.declared.opening.Creation.{Creation}
use Rattle.program_databases.specs.Databases.{AreSettled}
use Rattle.program_databases.specs.Unopened.{HasNoFiles, LeavesFound}
use Rattle.program_databases.specs.declared.unopened.Unopened.{Unopened}
use Rattle.program_databases.specs.declared.unopened.Unopened.TheVariants.{Left, NotOpened, Untouched}

-- what is left of files that could not be opened, by what they held
pub spares_settled : {A D : Type 0} (g : Ghosts D) (ways : A → Way) (image : Image) (files : Files D) (left : Leftover D g) → AreSettled g image files
    → KeepsFiles {g = g} (λ were. were ≡ files) ways (image_of g files) left → KeepsFiles {g = g} (AreSettled g image) ways image left
spares_settled g ways image files (leftover.Files now) settled (were, is, leaves) = (were, subst (AreSettled g image) (sym is) settled, leaves)
spares_settled g ways image files (leftover.Unopened now) settled (were, is, leaves) = (were, subst (AreSettled g image) (sym is) settled, leaves)
spares_settled g ways image files (leftover.Store it) settled kept = subst (λ i. KeepsFiles {g = g} (AreSettled g image) ways i (leftover.Store it)) settled.0 kept

-- where no desk is opened in such files, they are left as they held
pub spares_refused : {D : Type 0} (g : Ghosts D) (creation by : Creation) (image : Image) (files : Files D) (left : Leftover D g) → AreSettled g image files → creation ≡ by
    → (AreRefused creation (image_of g files) → LeavesFiles {g = g} files left) → AreRefused by image → (was : Files D) × AreSettled g image was × LeavesFiles {g = g} was left
spares_refused g creation by image files left settled same spared refused =
    (files, settled, spared (subst (AreRefused creation) (sym settled.0) (subst (λ c. AreRefused c image) (sym same) refused)))

-- where there are no files, nothing is left of them
pub none_left : {O U D A : Type 0} (g : Ghosts D) (ways : A → Way) (creation : Creation) (image : Image) (left : Unopened O U D g) → HasNoFiles left → LeavesFound ways creation image left
none_left g ways creation image (Untouched databases) none = tt
none_left g ways creation image (NotOpened files) none = tt
none_left g ways creation image (Left files) none = absurd none
