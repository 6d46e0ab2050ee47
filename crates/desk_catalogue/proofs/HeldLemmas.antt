-- What queries answer where the tables hold an entry: its identifiers, its offers and their prices,
-- in order.
use Rattle.std.specs.Prelude.{◌≡◌, ◌+◌, ℕ, List, [], ◌∷◌, map, Option, Some, None, IfSome}
use Rattle.std.specs.List.{AllByRecursion, enumerate_from, flat_map}
use Rattle.std.specs.List.Sorted.{IsStrictlySortedBy}
use Rattle.std.specs.Ordering.{nat_cmp}
use Rattle.std.proofs.Common.{ap, refl, subst, sym, ◌∙◌}
use Rattle.std.proofs.lemmas.Cmp.{nat_cmp_total}
use Rattle.std.proofs.lemmas.List.Elements.{recursion_from_All}
use Rattle.std.proofs.lemmas.List.Sorted.{IsPermutation-sym, IsPermutation-trans}
use Rattle.sqlite_trees.proofs.ListLemmas.{all-append, all-map, all_weaker, map-map}
use Rattle.onix_records.specs.declared.parts.ProductSupply.{ProductSupply}
use Rattle.catalogue_rules.specs.declared.entry.Entry.{Entry}
use Rattle.desk_tables.specs.ArticleAnswers.{AreArticlesOf, AreOfferRowsOf}
use Rattle.desk_tables.specs.RecordReadings.{read_offer}
use Rattle.desk_tables.specs.RecordRows.{OfferRow, offer_columns, offer_row}
use Rattle.desk_tables.specs.Rows.{DeskRows}
use Rattle.desk_tables.specs.declared.articles.ArticleRow.{ArticleRow}
use Rattle.desk_tables.specs.declared.offers.OfferRow as typed
use Rattle.desk_catalogue.specs.EntryRows.{SuppliedDetail, article_row, article_rows, ids_of, numbered_details, offer_row_of, offer_rows_of, record_row, supplied_details, supplies_of}
use Rattle.desk_catalogue.specs.Holding.{HoldsEntry}
use Rattle.desk_catalogue.proofs.PlaceLemmas.{places-rise}
use Rattle.desk_catalogue.proofs.ReadingLemmas.{offer-back}
use Rattle.desk_catalogue.proofs.SortedLemmas.{sorted-permutation}
use Rattle.desk_catalogue.specs.Storable.{IsStorable, IsStorableDetail, IsStorableSupply, IsWritten}

-- ---- identifiers

pub held_articles : (series reference : List ℕ) (o : Option Entry) (rows : DeskRows)
    (got : List ArticleRow) → HoldsEntry series reference o rows
    → AreArticlesOf series reference rows got → got ≡ article_rows series reference (ids_of o)
held_articles series reference o rows got h answered =
    let place_of : ArticleRow → ℕ = λ r. r.id_place in
    sorted-permutation nat_cmp_total place_of (article_rows series reference (ids_of o)) got
    (places-rise (article_row series reference) place_of (λ p. refl) 1 (ids_of o))
    (IsPermutation-trans _ _ _ (IsPermutation-sym _ _ h.articles) answered.0) answered.1

-- ---- SupplyDetails

abbrev pub IsStorableSupplied : SuppliedDetail → Type 0
IsStorableSupplied d = IsWritten d.market × IsStorableDetail d.detail

details-storable : (number : ℕ) (s : ProductSupply) → IsStorableSupply s
    → AllByRecursion IsStorableSupplied (numbered_details (number, s))
details-storable number s h =
    all-map IsStorableSupplied (λ d. record { supply = number; market = s.market; detail = d })
    s.details
    (all_weaker IsStorableDetail (λ d. IsWritten s.market × IsStorableDetail d)
    (λ d k. (h.market, k)) s.details (recursion_from_All IsStorableDetail s.details h.each))

supplied-storable : (number : ℕ) (supplies : List ProductSupply)
    → AllByRecursion IsStorableSupply supplies
    → AllByRecursion IsStorableSupplied (flat_map numbered_details (enumerate_from number supplies))
supplied-storable number [] h = tt
supplied-storable number (s ∷ more) h = all-append IsStorableSupplied (numbered_details (number, s))
    (flat_map numbered_details (enumerate_from (number + 1) more)) (details-storable number s h.0)
    (supplied-storable (number + 1) more h.1)

pub all-storable : (o : Option Entry) → IfSome o IsStorable
    → AllByRecursion IsStorableSupplied (supplied_details (supplies_of o))
all-storable None h = tt
all-storable (Some e) h = supplied-storable 1 e.supplies
    (recursion_from_All IsStorableSupply e.supplies h.1.each)

pub same-list : {A : Type 0} (xs ys : List A) → map (λ x. Some x) xs ≡ map (λ y. Some y) ys
    → xs ≡ ys
same-list [] [] e = refl
same-list [] (y ∷ ys) e = cc e
same-list (x ∷ xs) [] e = cc e
same-list (x ∷ xs) (y ∷ ys) e =
    let first : x ≡ y = cc e in
    let rest : map (λ z. Some z) xs ≡ map (λ z. Some z) ys = cc e in
    let same = same-list xs ys rest in
    λ i. first i ∷ same i

offers-read : (series reference : List ℕ) (n : ℕ) (ds : List SuppliedDetail)
    → AllByRecursion IsStorableSupplied ds
    → map (λ (o : OfferRow). read_offer (offer_columns o))
    (map offer_row (map (offer_row_of series reference) (enumerate_from n ds)))
    ≡ map (λ o. Some o) (map (offer_row_of series reference) (enumerate_from n ds))
offers-read series reference n [] h = refl
offers-read series reference n (d ∷ ds) h =
    let first = offer-back (offer_row_of series reference (n, d)) h.0.0 h.0.1.party h.0.1.unpriced
    in
    let rest = offers-read series reference (n + 1) ds h.1 in
    λ i. first i ∷ rest i

pub held_offer_rows : (series reference : List ℕ) (o : Option Entry) (rows : DeskRows)
    (got : List typed.OfferRow) → HoldsEntry series reference o rows
    → AreOfferRowsOf rows (record_row series reference) got
    → got ≡ offer_rows_of series reference (supplies_of o)
held_offer_rows series reference o rows got h answered =
    let offers = offer_rows_of series reference (supplies_of o) in
    let place_of : OfferRow → ℕ = λ r. r.place in
    let as_one = map-map offer_row (offer_row_of series reference)
    (enumerate_from 1 (supplied_details (supplies_of o))) in
    let up = subst (λ l. IsStrictlySortedBy nat_cmp (map place_of l)) (sym as_one)
    (places-rise (λ p. offer_row (offer_row_of series reference p)) place_of (λ p. refl) 1
    (supplied_details (supplies_of o))) in
    let in_order : answered.0 ≡ map offer_row offers =
    sorted-permutation nat_cmp_total place_of (map offer_row offers) answered.0 up
    (IsPermutation-trans _ _ _ (IsPermutation-sym _ _ h.offers) answered.1) answered.2 in
    same-list got offers (sym answered.3 ∙ ap (map (λ (r : OfferRow). read_offer (offer_columns r)))
    in_order ∙ offers-read series reference 1 (supplied_details (supplies_of o))
    (all-storable o h.storable))
