-- A catalogue read record by record.
use Rattle.std.proofs.Common.{◌≡◌, ℕ, Bool, true, false, cond, ◌&&◌, ◌||◌, List, [], ◌∷◌, ◌++◌, get_or, filter, Option, Some, None, refl, sym, ap, subst, ◌∙◌}
use Rattle.std.specs.FinMap as fin
use Rattle.std.specs.FinMap.{get-empty, get-insert}
use Rattle.std.specs.List.{All, list_any}
use Rattle.std.specs.Option.{is_some, IsSome}
use Rattle.std.specs.Str.{bytes_eq}
use Rattle.std.specs.Cmp.Lexicographic.{slice_cmp}
use Rattle.std.specs.Ordering.{nat_cmp, eq_by_cmp}
use Rattle.std.proofs.lemmas.Cmp.{nat_list_cmp_total, eq_by_cmp_equiv}
use Rattle.std.proofs.lemmas.List.Elements.{All-from_get_or, All-pop, filter_passes}
use Rattle.std.proofs.lemmas.List.Folds.{list_any-append, list_any_at}
use Rattle.std.proofs.lemmas.List.Sorted.{All-permutation, list_any-IsPermutation}
use Rattle.std.proofs.lemmas.Map.Text.{is_eq-slice_cmp}
use Rattle.std.proofs.lemmas.Slice.Eq.{bytes_eq-Decides}
use Rattle.catalogue_rules.specs.Records.{ByReference}
use Rattle.catalogue_rules.specs.declared.entry.Entry.{Entry}
use Rattle.catalogue_rules.proofs.Lookups.{equal_maps}
use Rattle.desk_tables.specs.RecordAnswers.{AreRecordsInOrder, is_record_in}
use Rattle.desk_tables.specs.Rows.{DeskRows}
use Rattle.desk_tables.specs.declared.records.RecordRow.{RecordRow}
use Rattle.desk_catalogue.specs.EntryRows.{record_row}
use Rattle.desk_catalogue.specs.Holding.{HoldsCatalogue, HoldsEntry}
use Rattle.desk_catalogue.specs.ReadRecords.{AreReadOf, IsRecordOf, is_named}
use Rattle.desk_catalogue.proofs.HoldingLemmas.{known_is}
use Rattle.desk_catalogue.proofs.OwnRows.{same_text}

-- ---- one record after the other

-- no records are read
pub none_read : (rows : DeskRows) (part : ByReference) → part ≡ fin.empty → AreReadOf [] rows part
none_read rows part is = λ series m held all q. ap (λ (c : ByReference). fin.get c q) is ∙ get-empty (slice_cmp nat_cmp) q

one_more : {X : Type 0} (x b : Bool) (o v : Option X) → (b ≡ true → v ≡ o) → cond b v (cond x o None) ≡ cond (x || (b || false)) o None
one_more true true o v is = is refl
one_more true false o v is = refl
one_more false true o v is = is refl
one_more false false o v is = refl

same_test : (k q : List ℕ) → eq_by_cmp (slice_cmp nat_cmp) q k ≡ bytes_eq k q
same_test k q = (eq_by_cmp_equiv nat_list_cmp_total).symm q k ∙ is_eq-slice_cmp k q

entry_there : (o : Option Entry) (x : Entry) → IsSome o → ((e : Entry) → o ≡ Some e → x ≡ e) → Some x ≡ o
entry_there None x there is = absurd cc
entry_there (Some e) x there is = ap Some (is e refl)

pub one_more_read : (done : List RecordRow) (row : RecordRow) (rows between : DeskRows) (before now : ByReference) (x : Entry) → between ≡ rows → AreReadOf done rows before
    → ((e : Entry) → HoldsEntry row.series row.reference (Some e) between → x ≡ e) → now ≡ fin.insert before row.reference x → AreReadOf (done ++ row ∷ []) rows now
one_more_read done row rows between before now x same so_far reads put = λ series m held all q.
    let k = row.reference in
    let all_done = All-pop (IsRecordOf series m) (done ++ row ∷ []) done (Some row) refl all in
    let last = all_done.1 in
    let here : Some x ≡ fin.get m k =
    entry_there (fin.get m k) x last.there
    (λ e is. reads e (subst (λ (d : DeskRows). HoldsEntry row.series k (Some e) d) (sym same) (subst (λ s. HoldsEntry s k (Some e) rows) (sym last.series_is) (subst (λ o. HoldsEntry series k o rows) is (held k))))) in
    ap (λ (c : ByReference). fin.get c q) put
    ∙ get-insert nat_list_cmp_total before k x q
    ∙ ap (λ b. cond b (Some x) (fin.get before q)) (same_test k q)
    ∙ ap (cond (bytes_eq k q) (Some x)) (so_far series m held all_done.0 q)
    ∙ one_more (list_any (is_named q) done) (bytes_eq k q) (fin.get m q) (Some x) (λ is. here ∙ ap (fin.get m) ((bytes_eq-Decides k q).0 is))
    ∙ ap (λ b. cond b (fin.get m q) None) (sym (list_any-append (is_named q) done (row ∷ [])))

-- ---- all records of the series

any_within : {A : Type 0} (p t : A → Bool) (xs : List A) → list_any p (filter t xs) ≡ list_any (λ x. t x && p x) xs
any_within p t [] = refl
any_within p t (x ∷ xs) = elim (t x) as (λ b. list_any p (cond b (x ∷ filter t xs) (filter t xs)) ≡ ((b && p x) || list_any (λ y. t y && p y) xs)) [ true ↦ ap (λ b. p x || b) (any_within p t xs) | false ↦ any_within p t xs ]

if_some : {X : Type 0} (o : Option X) → cond (is_some o) o None ≡ o
if_some None = refl
if_some (Some x) = refl

module _ (series : List ℕ) (records : List RecordRow) (rows : DeskRows) (m : ByReference) (in_order : AreRecordsInOrder series rows records) (held : HoldsCatalogue series m rows) where
  -- they are at the references at which the catalogue has an entry
  any_is : (q : List ℕ) → list_any (is_named q) records ≡ is_some (fin.get m q)
  any_is q = sym (list_any-IsPermutation (is_named q) _ _ in_order.0) ∙ any_within (is_named q) (is_record_in series) rows.records ∙ known_is series q (fin.get m q) rows (held q)

  all_in : All (λ r. is_record_in series r ≡ true) records
  all_in = All-permutation (λ r. is_record_in series r ≡ true) (filter (is_record_in series) rows.records) records in_order.0 (filter_passes (is_record_in series) rows.records)

  all_there : All (IsRecordOf series m) records
  all_there =
      All-from_get_or (IsRecordOf series m) records (record_row [] [])
      (λ i low.
      let row = get_or records i (record_row [] []) in
      record {
        series_is = (bytes_eq-Decides row.series series).0 (all_in i (record_row [] []) low);
        there = sym (any_is row.reference) ∙ list_any_at (is_named row.reference) records i (record_row [] []) low (same_text row.reference);
      })

  pub catalogue_read : (part : ByReference) → AreReadOf records rows part → part ≡ m
  catalogue_read part read =
      equal_maps part m
      (λ q. read series m held all_there q ∙ ap (λ b. cond b (fin.get m q) None) (any_is q) ∙ if_some (fin.get m q))
