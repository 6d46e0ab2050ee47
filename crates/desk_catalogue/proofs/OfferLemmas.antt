-- The offers of an article in tables that hold all catalogues: the records that have it, in order,
-- and their offers.
use Rattle.std.specs.Prelude.{◌≡◌, ℕ, Bool, true, false, ◌&&◌, ◌||◌, T, List, [], ◌∷◌, ◌++◌, map, filter, Option, Some, None, option_map, unwrap_or}
use Rattle.std.specs.Cmp.{IsTotalOrder, tied_itself}
use Rattle.std.specs.Cmp.Lexicographic.{slice_cmp}
use Rattle.std.specs.FinMap as fin
use Rattle.std.specs.FinMap.{FinMap, entries, entries-from_sorted, entries_sorted, from_sorted, get, get-empty, get-entries, get-from_sorted}
use Rattle.std.specs.List.{AllByRecursion, flat_map, list_any}
use Rattle.std.specs.List.Sorted.{IsStrictlySortedBy}
use Rattle.std.specs.Ordering.{nat_cmp, ordering_then}
use Rattle.std.specs.Str.{bytes_eq}
use Rattle.std.specs.declared.cmp.Ordering.TheVariants.{Less}
use Rattle.std.proofs.Common.{ap, refl, subst, sym, ◌∙◌}
use Rattle.std.proofs.lemmas.Cmp.{nat_list_cmp_total, on_total, then_total}
use Rattle.std.proofs.lemmas.List.{map-id}
use Rattle.std.proofs.lemmas.List.Concat.{flat_map-append}
use Rattle.std.proofs.lemmas.List.Folds.{list_any-append}
use Rattle.std.proofs.lemmas.Slice.Eq.{bytes_eq-Decides}
use Rattle.sqlite_trees.specs.Tree.{IsAscending}
use Rattle.sqlite_trees.proofs.ListLemmas.{all-filter, all-flat_map, all-map, all_of, all_weaker, ascending-append, ascending-filter, ascending-map, ascending_weaker, flat_map-map}
use Rattle.catalogue_rules.specs.Offers.{entry_offers, has_article, is_article, offers_in}
use Rattle.catalogue_rules.specs.Records.{ByReference}
use Rattle.catalogue_rules.specs.declared.entry.Entry.{Entry}
use Rattle.desk_tables.specs.ArticleAnswers.{AreOffersInTurn, AreOffersOfArticle, AreRecordsOf, record_cmp}
use Rattle.desk_tables.specs.RecordChanges.{is_record}
use Rattle.desk_tables.specs.Rows.{DeskRows}
use Rattle.desk_tables.specs.declared.records.RecordRow.{RecordRow}
use Rattle.price_rules.specs.declared.offer.Offer.{Offer}
use Rattle.desk_catalogue.proofs.ArticleLemmas.{Record, any-filtered, held_any, held_in_turn, offers-listed, records_with}
use Rattle.desk_catalogue.specs.ArticleOffers.{HeldOffersAreAnswered}
use Rattle.desk_catalogue.specs.EntryRows.{ids_of, record_row}
use Rattle.desk_catalogue.specs.Holding.{ByName, HoldsCatalogue, HoldsCatalogues, HoldsEntry, catalogue_at}
use Rattle.desk_catalogue.proofs.KeyLemmas.{IsBelow, any-got, ascending-entries, entries-got, find-with_value, is_sorted-with_value, passes, with_value}
use Rattle.desk_catalogue.proofs.PlaceLemmas.{either-order}
use Rattle.desk_catalogue.proofs.SortedLemmas.{sorted-same}

-- ---- lists of records in strict order are equal where they have the same records

record_cmp-total : IsTotalOrder record_cmp
record_cmp-total = then_total (on_total (λ (r : RecordRow). r.series) nat_list_cmp_total)
    (on_total (λ (r : RecordRow). r.reference) nat_list_cmp_total)

both-true : (a b : Bool) → (a && b) ≡ true → (a ≡ true) × (b ≡ true)
both-true true b e = (refl, e)
both-true false b e = cc e

row-equal : (x y : RecordRow) → is_record y.series y.reference x ≡ true → x ≡ y
row-equal x y e =
    let parts = both-true (bytes_eq x.series y.series) (bytes_eq x.reference y.reference) e in
    let series = (bytes_eq-Decides x.series y.series).0 parts.0 in
    let reference = (bytes_eq-Decides x.reference y.reference).0 parts.1 in
    λ i. record_row (series i) (reference i)

row-itself : (x : RecordRow) → is_record x.series x.reference x ≡ true
row-itself x = ap (λ b. b && bytes_eq x.reference x.reference)
    ((bytes_eq-Decides x.series x.series).1 refl) ∙ (bytes_eq-Decides x.reference x.reference).1
    refl

or-true : (a : Bool) → (a || true) ≡ true
or-true true = refl
or-true false = refl

-- what holds of all records holds of one that is among them
holds-among : (P : RecordRow → Type 0) (y : RecordRow) (xs : List RecordRow)
    → list_any (is_record y.series y.reference) xs ≡ true → AllByRecursion P xs → P y
holds-among P y [] there h = cc there
holds-among P y (x ∷ xs) there h =
    elim (is_record y.series y.reference x) as
    (λ b. is_record y.series y.reference x ≡ b
    → (b || list_any (is_record y.series y.reference) xs) ≡ true → P y) [
      | true ↦ λ is more. subst P (row-equal x y is) h.0
      | false ↦ λ is more. holds-among P y xs more h.1
    ] refl there

each-among : (ys : List RecordRow) → AllByRecursion
    (λ y. list_any (is_record y.series y.reference) ys ≡ true) ys
each-among [] = tt
each-among (y ∷ ys) = (
  ap (λ b. b || list_any (is_record y.series y.reference) ys) (row-itself y),
  all_weaker (λ z. list_any (is_record z.series z.reference) ys ≡ true)
      (λ z. list_any (is_record z.series z.reference) (y ∷ ys) ≡ true)
      (λ z h. ap (λ b. is_record z.series z.reference y || b) h ∙ or-true
      (is_record z.series z.reference y)) ys (each-among ys),
)

abbrev HaveSameRecords : List RecordRow → List RecordRow → Type 0
HaveSameRecords xs ys = (series reference : List ℕ)
    → list_any (is_record series reference) xs ≡ list_any (is_record series reference) ys

all-of-same : (xs ys : List RecordRow) → HaveSameRecords xs ys → (P : RecordRow → Type 0)
    → AllByRecursion P xs → AllByRecursion P ys
all-of-same xs ys same P h =
    all_weaker (λ y. list_any (is_record y.series y.reference) ys ≡ true) P
    (λ y there. holds-among P y xs (same y.series y.reference ∙ there) h) ys (each-among ys)

records-equal : (xs ys : List RecordRow) → IsStrictlySortedBy record_cmp xs
    → IsStrictlySortedBy record_cmp ys → HaveSameRecords xs ys → xs ≡ ys
records-equal xs ys up down same =
    sorted-same record_cmp-total (λ (x : RecordRow). x) xs ys
    (subst (IsStrictlySortedBy record_cmp) (sym (map-id xs)) up)
    (subst (IsStrictlySortedBy record_cmp) (sym (map-id ys)) down)
    (all-of-same xs ys same) (all-of-same ys xs (λ series reference. sym (same series reference)))

-- ---- the records of the catalogues that have the article, in order

abbrev row_of : Record → RecordRow
row_of x = record_row x.0 x.1.0

abbrev records_among : List ℕ → List (List ℕ × ByReference) → List Record
records_among isbn cs = flat_map (λ (c : List ℕ × ByReference). records_with isbn
    (c.0, entries c.1)) cs

-- the row of one record is before that of the other
abbrev IsBefore : Record → Record → Type 0
IsBefore x y = record_cmp (row_of x) (row_of y) ≡ Less

abbrev has : List ℕ → List ℕ × Entry → Bool
has isbn r = has_article isbn r.1

catalogue-rises : (isbn series : List ℕ) (m : ByReference)
    → IsAscending IsBefore (records_with isbn (series, entries m))
catalogue-rises isbn series m =
    let IsBeforeIn : List ℕ × Entry → List ℕ × Entry
    → Type 0 = λ q r. IsBefore (series, q) (series, r) in
    let before : (q r : List ℕ × Entry) → IsBelow q r
    → IsBeforeIn q r = λ q r below. ap (λ o. ordering_then o (slice_cmp nat_cmp q.0 r.0))
    (tied_itself nat_list_cmp_total series) ∙ below in
    ascending-map IsBefore (λ (r : List ℕ × Entry). (series, r)) (filter (has isbn) (entries m))
    (ascending-filter IsBeforeIn (has isbn) (entries m)
    (ascending_weaker IsBelow IsBeforeIn before (entries m) (ascending-entries m)))

before-later : (isbn series : List ℕ) (r : List ℕ × Entry) (cs : List (List ℕ × ByReference))
    → AllByRecursion (λ c. slice_cmp nat_cmp series c.0 ≡ Less) cs
    → AllByRecursion (IsBefore (series, r)) (records_among isbn cs)
before-later isbn series r cs below =
    let before : (c : List ℕ × ByReference) → slice_cmp nat_cmp series c.0 ≡ Less
    → AllByRecursion (IsBefore (series, r)) (records_with isbn (c.0, entries c.1))
    = λ c h. all-map (IsBefore (series, r)) (λ (q : List ℕ × Entry). (c.0, q))
    (filter (has isbn) (entries c.1))
    (all_of (λ q. IsBefore (series, r) (c.0, q))
    (λ q. ap (λ o. ordering_then o (slice_cmp nat_cmp r.0 q.0)) h)
    (filter (has isbn) (entries c.1))) in
    all-flat_map (IsBefore (series, r)) (λ (c : List ℕ × ByReference). records_with isbn
    (c.0, entries c.1)) cs
    (all_weaker (λ c. slice_cmp nat_cmp series c.0 ≡ Less)
    (λ c. AllByRecursion (IsBefore (series, r)) (records_with isbn (c.0, entries c.1))) before
    cs below)

catalogues-rise : (isbn : List ℕ) (cs : List (List ℕ × ByReference)) → IsAscending IsBelow cs
    → IsAscending IsBefore (records_among isbn cs)
catalogues-rise isbn [] up = tt
catalogues-rise isbn (c ∷ cs) up =
    let across = all-map (λ x. AllByRecursion (IsBefore x) (records_among isbn cs))
    (λ (r : List ℕ × Entry). (c.0, r)) (filter (has isbn) (entries c.1))
    (all_of (λ r. AllByRecursion (IsBefore (c.0, r)) (records_among isbn cs))
    (λ r. before-later isbn c.0 r cs up.0) (filter (has isbn) (entries c.1))) in
    ascending-append IsBefore (records_with isbn (c.0, entries c.1)) (records_among isbn cs)
    (catalogue-rises isbn c.0 c.1) (catalogues-rise isbn cs up.1) across

sorted-ascending : (xs : List Record) → IsAscending IsBefore xs
    → IsStrictlySortedBy record_cmp (map row_of xs)
unfolding IsStrictlySortedBy
sorted-ascending [] up = tt
sorted-ascending (x ∷ xs) up = (
  all-map (λ y. record_cmp (row_of x) y ≡ Less) row_of xs up.0,
  sorted-ascending xs up.1,
)

-- ---- which records these are

any-mapped : {A B : Type 0} (p : B → Bool) (f : A → B) (xs : List A)
    → list_any p (map f xs) ≡ list_any (λ x. p (f x)) xs
any-mapped p f [] = refl
any-mapped p f (x ∷ xs) = ap (λ b. p (f x) || b) (any-mapped p f xs)

any-none : {A : Type 0} (p : A → Bool) (xs : List A) → list_any (λ x. p x && false) xs ≡ false
any-none p [] = refl
any-none p (x ∷ xs) = ap (λ b. b || list_any (λ y. p y && false) xs) (either-order (p x) false) ∙
    any-none p xs

any-where : {A : Type 0} (b : Bool) (p q : A → Bool) (xs : List A)
    → list_any (λ x. p x && (b && q x)) xs ≡ (b && list_any (λ x. q x && p x) xs)
any-where true p q xs = λ i. list_any (λ x. either-order (p x) (q x) i) xs
any-where false p q xs = any-none p xs

-- whether the record of that reference has the article
abbrev has_at : List ℕ → List ℕ → ByReference → Bool
has_at isbn reference m = list_any (λ (r : List ℕ × Entry). bytes_eq r.0 reference && has_article
    isbn r.1) (entries m)

any-in-catalogue : (isbn series reference name : List ℕ) (m : ByReference)
    → list_any (λ x. is_record series reference (row_of x)) (records_with isbn (name, entries m))
    ≡ (bytes_eq name series && has_at isbn reference m)
any-in-catalogue isbn series reference name m =
    any-mapped (λ x. is_record series reference (row_of x)) (λ (r : List ℕ × Entry). (name, r))
    (filter (has isbn) (entries m))
    ∙ any-filtered (λ (r : List ℕ × Entry). bytes_eq name series && bytes_eq r.0 reference)
    (has isbn) (entries m)
    ∙ any-where (bytes_eq name series) (has isbn) (λ (r : List ℕ × Entry). bytes_eq r.0 reference)
    (entries m)

any-among : (isbn series reference : List ℕ) (cs : List (List ℕ × ByReference))
    → list_any (λ x. is_record series reference (row_of x)) (records_among isbn cs)
    ≡ list_any (λ (c : List ℕ × ByReference). bytes_eq c.0 series && has_at isbn reference c.1)
    cs
any-among isbn series reference [] = refl
any-among isbn series reference (c ∷ cs) =
    list_any-append (λ x. is_record series reference (row_of x))
    (records_with isbn (c.0, entries c.1)) (records_among isbn cs)
    ∙ ap (λ b. b || list_any (λ x. is_record series reference (row_of x)) (records_among isbn cs))
    (any-in-catalogue isbn series reference c.0 c.1)
    ∙ ap (λ b. (bytes_eq c.0 series && has_at isbn reference c.1) || b)
    (any-among isbn series reference cs)

passes-ids : (isbn : List ℕ) (o : Option Entry)
    → passes (has_article isbn) o ≡ list_any (is_article isbn) (ids_of o)
passes-ids isbn None = refl
passes-ids isbn (Some e) = refl

has_at-got : (isbn reference : List ℕ) (m : ByReference)
    → has_at isbn reference m ≡ list_any (is_article isbn) (ids_of (get m reference))
has_at-got isbn reference m = any-got (has_article isbn) m reference ∙ passes-ids isbn
    (get m reference)

passes-catalogue : (isbn reference : List ℕ) (o : Option ByReference)
    → passes (has_at isbn reference) o ≡ list_any (is_article isbn)
    (ids_of (get (unwrap_or o fin.empty) reference))
passes-catalogue isbn reference None = sym
    (ap (λ o. list_any (is_article isbn) (ids_of o)) (get-empty (slice_cmp nat_cmp) reference))
passes-catalogue isbn reference (Some m) = has_at-got isbn reference m

-- a record is among them if its entry has the article
any-record : (isbn series reference : List ℕ) (catalogues : ByName)
    → list_any (is_record series reference) (map row_of (records_among isbn (entries catalogues)))
    ≡ list_any (is_article isbn) (ids_of (get (catalogue_at catalogues series) reference))
any-record isbn series reference catalogues =
    any-mapped (is_record series reference) row_of (records_among isbn (entries catalogues))
    ∙ any-among isbn series reference (entries catalogues)
    ∙ any-got (has_at isbn reference) catalogues series
    ∙ passes-catalogue isbn reference (get catalogues series)

-- the records that have the article in the tables are those of the catalogues that have it
pub held_records : (isbn : List ℕ) (catalogues : ByName) (rows : DeskRows)
    (records : List RecordRow) → HoldsCatalogues catalogues rows → AreRecordsOf isbn rows records
    → records ≡ map (λ (x : Record). record_row x.0 x.1.0) (records_among isbn (entries catalogues))
held_records isbn catalogues rows records h answered =
    let listed = records_among isbn (entries catalogues) in
    records-equal records (map row_of listed) answered.rising
    (sorted-ascending listed (catalogues-rise isbn (entries catalogues)
    (ascending-entries catalogues)))
    (λ series reference. answered.are series reference ∙ held_any isbn series reference
    (get (catalogue_at catalogues series) reference) rows (h series reference) ∙ sym
    (any-record isbn series reference catalogues))

-- ---- their offers

held-in-catalogue : (isbn series : List ℕ) (m : ByReference) (rows : DeskRows)
    → HoldsCatalogue series m rows → AllByRecursion (λ x. HoldsEntry x.0 x.1.0 (Some x.1.1) rows)
    (records_with isbn (series, entries m))
held-in-catalogue isbn series m rows h =
    let each = all_weaker (λ r. get m r.0 ≡ Some r.1)
    (λ (r : List ℕ × Entry). HoldsEntry series r.0 (Some r.1) rows)
    (λ r got. subst (λ o. HoldsEntry series r.0 o rows) got (h r.0)) (entries m) (entries-got m)
    in
    all-map (λ (x : Record). HoldsEntry x.0 x.1.0 (Some x.1.1) rows)
    (λ (r : List ℕ × Entry). (series, r)) (filter (has isbn) (entries m))
    (all-filter (λ (r : List ℕ × Entry). HoldsEntry series r.0 (Some r.1) rows) (has isbn)
    (entries m) each)

held-among : (isbn : List ℕ) (catalogues : ByName) (rows : DeskRows)
    → HoldsCatalogues catalogues rows → AllByRecursion (λ x. HoldsEntry x.0 x.1.0 (Some x.1.1) rows)
    (records_among isbn (entries catalogues))
held-among isbn catalogues rows h =
    let AreHeld : List ℕ × ByReference → Type 0 =
    λ c. AllByRecursion (λ (x : Record). HoldsEntry x.0 x.1.0 (Some x.1.1) rows)
    (records_with isbn (c.0, entries c.1)) in
    let held : (c : List ℕ × ByReference) → get catalogues c.0 ≡ Some c.1 → AreHeld c
    = λ c got. held-in-catalogue isbn c.0 c.1 rows
    (subst (λ o. HoldsCatalogue c.0 (unwrap_or o fin.empty) rows) got (h c.0)) in
    all-flat_map (λ (x : Record). HoldsEntry x.0 x.1.0 (Some x.1.1) rows)
    (λ (c : List ℕ × ByReference). records_with isbn (c.0, entries c.1)) (entries catalogues)
    (all_weaker (λ c. get catalogues c.0 ≡ Some c.1) AreHeld held (entries catalogues)
    (entries-got catalogues))

offers-among : (isbn : List ℕ) (cs : List (List ℕ × ByReference))
    → flat_map (λ (x : Record). entry_offers x.0 x.1.0 x.1.1) (records_among isbn cs)
    ≡ flat_map (λ c. offers_in c.0 c.1 isbn) cs
offers-among isbn [] = refl
offers-among isbn (c ∷ cs) =
    flat_map-append (λ (x : Record). entry_offers x.0 x.1.0 x.1.1)
    (records_with isbn (c.0, entries c.1)) (records_among isbn cs)
    ∙ ap (λ l. l ++ flat_map (λ (x : Record). entry_offers x.0 x.1.0 x.1.1) (records_among isbn cs))
    (offers-listed isbn c.0 (entries c.1))
    ∙ ap (λ l. offers_in c.0 c.1 isbn ++ l) (offers-among isbn cs)

-- the offers of an article in the tables are those of the catalogues
pub held_article_offers : HeldOffersAreAnswered
held_article_offers isbn catalogues rows offers h (records, are, in_turn) =
    let listed = records_among isbn (entries catalogues) in
    held_in_turn rows listed offers (held-among isbn catalogues rows h)
    (subst (λ l. AreOffersInTurn rows l offers)
    (held_records isbn catalogues rows records h are) in_turn) ∙ offers-among isbn (entries
    catalogues)

-- the same, where the catalogue of each series is made of what a map has at its name
pub held_article_offers_by_value : {X : Type 0} (catalogue : X → ByReference) (isbn : List ℕ)
    (m : FinMap (slice_cmp nat_cmp) X) (rows : DeskRows) (offers : List Offer)
    → ((series : List ℕ) → HoldsCatalogue series
    (unwrap_or (option_map catalogue (get m series)) fin.empty) rows)
    → AreOffersOfArticle isbn rows offers
    → offers ≡ flat_map (λ e. offers_in e.0 (catalogue e.1) isbn) (entries m)
held_article_offers_by_value catalogue isbn m rows offers h answered =
    let es = map (with_value catalogue) (entries m) in
    let sorted = subst T (sym (is_sorted-with_value catalogue (entries m))) (entries_sorted m) in
    let catalogues : ByName = from_sorted es in
    let got : (series : List ℕ) → get catalogues series ≡ option_map catalogue (get m series)
    = λ series. get-from_sorted (slice_cmp nat_cmp) es series sorted ∙ find-with_value catalogue
    series (entries m) ∙ ap (option_map catalogue) (sym (get-entries m series)) in
    held_article_offers isbn catalogues rows offers
    (λ series. subst (λ o. HoldsCatalogue series (unwrap_or o fin.empty) rows)
    (sym (got series)) (h series)) answered
    ∙ ap (flat_map (λ e. offers_in e.0 e.1 isbn))
    (entries-from_sorted (slice_cmp nat_cmp) es sorted)
    ∙ flat_map-map (λ e. offers_in e.0 e.1 isbn) (with_value catalogue) (entries m)
