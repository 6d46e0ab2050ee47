-- Files that hold no table of a desk.
use Rattle.std.proofs.Common.{◌≡◌, ◌<◌, ◌≤◌, inl, inr, ℕ, true, false, List, [], arith, length, length-take, slice_index, get_or-take, take, None, Option, Some, unwrap_or, refl, sym, ap, subst, ◌∙◌}
use Rattle.std.specs.FinMap as fin
use Rattle.std.specs.FinMap.{get-empty}
use Rattle.std.specs.Cmp.Lexicographic.{slice_cmp}
use Rattle.std.specs.Ordering.{nat_cmp}
use Rattle.std.proofs.Math.Logic.{∥∥₁_elim}
use Rattle.std.proofs.lemmas.List.Sorted.{IsPermutation-refl}
use Rattle.sqlite.proofs.ListingLemmas.{empty_is_sound}
use Rattle.sqlite.specs.Effect.{Database, IsDatabase}
use Rattle.sqlite.specs.Files.{AreFoundIn, IsEmpty, IsNothing}
use Rattle.sqlite_pages.specs.PageMap.{PageMap}
use Rattle.sqlite_pool.proofs.ProbeLemmas.{first_byte}
use Rattle.sqlite_pool.specs.File.{header_in, IsSoundFile}
use Rattle.sqlite_pool.specs.Header.{first_page}
use Rattle.sqlite_pool.specs.Stored.{Adopts, sealed, stored_size, used_size}
use Rattle.sqlite_pool.specs.StoredLaws.{trimmed_some}
use Rattle.sqlite_store.specs.Listing.{IsOurs}
use Rattle.sqlite_trees.specs.Tree.{Trees}
use Rattle.sqlite_wal.proofs.AppendLemmas.{some_value}
use Rattle.sqlite_wal.proofs.CreateLemmas.{begun_is_not_blank}
use Rattle.sqlite_wal.specs.Recovery.{Image}
use Rattle.catalogue_rules.specs.declared.entry.Entry.{Entry}
use Rattle.desk_catalogue.specs.Holding.{HoldsCatalogue, HoldsEntry}
use Rattle.desk_tables.proofs.OneSchema.{emptied_again}
use Rattle.desk_tables.specs.Rows.{first_rows}
use Rattle.desk_tables.specs.Schema.{schema_0}
use Rattle.desk_tables.specs.Transactions.{HasNoRows, IsEmptied}
use Rattle.desk_versions.specs.Openings.{AreEmptyFiles}
use Rattle.desk_rows.specs.Stands.{StandsFor}

-- trees without a list of objects are those of a database without a table
pub bare_database : (d : Trees) → IsEmpty d → HasNoRows schema_0 (record { schema = schema_0; trees = d })
bare_database d empty = (record { schema_is = refl; empty = tt }, empty_is_sound d empty.1)

-- a sound database of such trees has no table
pub bare_is_emptied : (db : Database) → IsDatabase db → IsEmpty db.trees → IsEmptied schema_0 db
bare_is_emptied db sound empty =
    let bare = bare_database db.trees empty in
    emptied_again (record { schema = schema_0; trees = db.trees }) db bare.1 bare.0 sound refl

-- ---- files of which no database was made yet

-- the first byte of a sound file is that of `SQLite format 3`, so files that recover to one are not nothing
module _ (size : ℕ) (image : Image) (pages : PageMap) (found : Adopts size image pages) (sound : IsSoundFile size pages) where
  is_something : ¬ IsNothing image
  is_something nothing =
      let (page, is) = some_value (found.stored 1) found.whole.first in
      let whole = found.whole.sized 1 page is in
      let used : pages 1 ≡ Some (take size page) = ap (λ (p : PageMap). p 1) (sym found.shows) ∙ trimmed_some size found.stored 1 page is in
      let head : header_in pages ≡ take 100 (take size page) = ap (λ o. take 100 (unwrap_or o [])) used in
      let magic = sound.header.0.magic in
      let long : 16 ≤ size = omega (arith, ap length magic, length-take 16 (header_in pages), ap length head, length-take 100 (take size page), length-take size page) in
      let front : slice_index page 0 ≡ 83 =
      sym (get_or-take size page 0 0 (omega arith)) ∙ sym (get_or-take 100 (take size page) 0 0 (omega arith)) ∙ ap (λ (b : List ℕ). slice_index b 0) (sym head)
      ∙ sym (get_or-take 16 (header_in pages) 0 0 (omega arith)) ∙ ap (λ (b : List ℕ). slice_index b 0) magic in
      let never = λ (other : ℕ) (some : 0 < other).
      let gate = first_byte other some in
      begun_is_not_blank (sealed (first_page other)) page (stored_size size) image found.stored found.found is whole (omega arith) (front ∙ sym gate) (λ none. let no = sym gate ∙ none in omega arith) in
      elim nothing [ inl plain ↦ never (used_size 4096 false) (omega arith) plain | inr summed ↦ never (used_size 4096 true) (omega arith) summed ]

-- what is found in them is empty
pub nothing_found : (image : Image) → IsNothing image → (d : Trees) → AreFoundIn image d → IsEmpty d
nothing_found image nothing d (inl (size, pages, wanted, adopts, ours, is)) =
    absurd (∥∥₁_elim ours (λ x y. absurd x) (λ (it : IsOurs size true wanted pages). is_something size image pages adopts it.file.sound nothing))
nothing_found image nothing d (inr none) = none.1

no_byte_is_nothing : (image : Image) → image.db ≡ [] → IsNothing image
no_byte_is_nothing image none = inl (inl (ap length none))

-- so it is with files without a byte
pub found_empty : (image : Image) → image.db ≡ [] → (d : Trees) → AreFoundIn image d → IsEmpty d
found_empty image none d found = nothing_found image (no_byte_is_nothing image none) d found

pub empty_files : (image : Image) → image.db ≡ [] → AreEmptyFiles image
empty_files image none = inl (no_byte_is_nothing image none)

-- ---- tables without requests

no_entry : (s reference : List ℕ) → HoldsEntry s reference None first_rows
no_entry s reference = record { storable = tt; records = IsPermutation-refl []; articles = IsPermutation-refl []; offers = IsPermutation-refl []; prices = IsPermutation-refl []; minimums = IsPermutation-refl [] }

no_records : (s : List ℕ) → HoldsCatalogue s fin.empty first_rows
no_records s = λ reference. subst (λ (o : Option Entry). HoldsEntry s reference o first_rows) (sym (get-empty (slice_cmp nat_cmp) reference)) (no_entry s reference)

pub first_stand : StandsFor first_rows []
first_stand = record {
  version = refl;
  by_name = λ name. refl;
  by_parties = λ sender addressee. refl;
  series = λ a found. absurd cc;
  others = λ name none. record { held = λ n. refl; applied = λ n. refl; catalogue = no_records name };
}
