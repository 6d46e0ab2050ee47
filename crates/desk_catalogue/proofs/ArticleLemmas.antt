-- The offers of an article where the tables hold entries: which records have it, and the offers of
-- each.
use Rattle.std.specs.Prelude.{◌≡◌, ◌+◌, ◌&&◌, ◌||◌, ℕ, Bool, true, false, List, [], ◌∷◌, ◌++◌, map, filter, Option, Some}
use Rattle.std.specs.List.{AllByRecursion, AllZip, enumerate_from, flat_map, list_any}
use Rattle.std.specs.Str.{bytes_eq}
use Rattle.std.proofs.Common.{ap, refl, subst, sym, cond, ◌∙◌}
use Rattle.std.proofs.lemmas.List.{map-append}
use Rattle.std.proofs.lemmas.List.Sorted.{list_any-IsPermutation}
use Rattle.sqlite_trees.proofs.ListLemmas.{map-map}
use Rattle.onix_records.specs.declared.parts.Price.{Price}
use Rattle.onix_records.specs.declared.parts.ProductIdentifier.{ProductIdentifier}
use Rattle.onix_records.specs.declared.parts.ProductSupply.{ProductSupply}
use Rattle.onix_records.specs.declared.parts.SupplyDetail.{SupplyDetail}
use Rattle.onix_terms.specs.declared.territory.Territory.{Territory}
use Rattle.price_rules.specs.declared.offer.Offer.{Offer}
use Rattle.onix_records.specs.Product.{is_article_type}
use Rattle.catalogue_rules.specs.Offers.{entry_details, entry_offers, has_article, is_article, offer_of, record_offers, supply_details}
use Rattle.catalogue_rules.specs.declared.entry.Entry.{Entry}
use Rattle.desk_tables.specs.ArticleAnswers.{AreOffersInTurn, AreOffersOf, ArePricesAt, IsOfferOf, names_article}
use Rattle.desk_tables.specs.RecordChanges.{is_article_of}
use Rattle.desk_tables.specs.Rows.{DeskRows}
use Rattle.desk_tables.specs.declared.offers.OfferRow as typed
use Rattle.desk_catalogue.specs.EntryRows.{SuppliedDetail, article_row, ids_of, numbered_details, offer_row_of, offer_rows_of, record_row, supplied_details}
use Rattle.desk_catalogue.proofs.HeldLemmas.{held_offer_rows}
use Rattle.desk_catalogue.proofs.HeldPriceLemmas.{held_prices}
use Rattle.desk_catalogue.specs.Holding.{HoldsEntry}
use Rattle.desk_catalogue.proofs.PlaceLemmas.{either-order}

-- ---- whether a record has the article

pub any-filtered : {A : Type 0} (p q : A → Bool) (xs : List A)
    → list_any p (filter q xs) ≡ list_any (λ x. q x && p x) xs
any-filtered p q [] = refl
any-filtered p q (x ∷ xs) = elim (q x) as
    (λ b. list_any p (cond b (x ∷ filter q xs) (filter q xs))
    ≡ ((b && p x) || list_any (λ y. q y && p y) xs)) [
      | true ↦ ap (λ b. p x || b)
          (any-filtered p q xs)
      | false ↦ any-filtered p q xs
    ]

any-named : (series reference isbn : List ℕ) (n : ℕ) (ids : List ProductIdentifier)
    → list_any (names_article isbn) (map (article_row series reference) (enumerate_from n ids))
    ≡ list_any (is_article isbn) ids
any-named series reference isbn n [] = refl
any-named series reference isbn n (id ∷ ids) =
    ap (λ b. b || list_any (names_article isbn)
    (map (article_row series reference) (enumerate_from (n + 1) ids))) (either-order
    (bytes_eq id.id_value isbn) (is_article_type id.id_type))
    ∙ ap (λ b. is_article isbn id || b) (any-named series reference isbn (n + 1) ids)

-- a record has the article in the tables as in its entry
pub held_any : (isbn series reference : List ℕ) (o : Option Entry) (rows : DeskRows)
    → HoldsEntry series reference o rows
    → list_any (λ a. is_article_of series reference a && names_article isbn a) rows.articles
    ≡ list_any (is_article isbn) (ids_of o)
held_any isbn series reference o rows h =
    sym (any-filtered (names_article isbn) (is_article_of series reference) rows.articles)
    ∙ list_any-IsPermutation (names_article isbn) _ _ h.articles
    ∙ any-named series reference isbn 1 (ids_of o)

-- ---- the offers of a record

placed-details : (n : ℕ) (supplies : List ProductSupply)
    → map (λ (d : SuppliedDetail). (d.market, d.detail))
    (flat_map numbered_details (enumerate_from n supplies)) ≡ entry_details supplies
placed-details n [] = refl
placed-details n (s ∷ more) =
    let part : SuppliedDetail → Territory × SupplyDetail = λ d. (d.market, d.detail) in
    map-append part (numbered_details (n, s))
    (flat_map numbered_details (enumerate_from (n + 1) more))
    ∙ ap (λ l. l ++ map part (flat_map numbered_details (enumerate_from (n + 1) more)))
    (map-map part (λ (d : SupplyDetail). record { supply = n; market = s.market; detail = d })
    s.details)
    ∙ ap (λ l. supply_details s ++ l) (placed-details (n + 1) more)

offers-with : (series reference : List ℕ) (rows : DeskRows) (n : ℕ) (ds : List SuppliedDetail)
    (offers : List Offer) → AllZip (IsOfferOf rows)
    (map (offer_row_of series reference) (enumerate_from n ds)) offers
    → map (λ (o : Offer). o.prices) offers ≡ map (λ (d : SuppliedDetail). d.detail.prices) ds
    → offers ≡ map (offer_of series reference)
    (enumerate_from n (map (λ (d : SuppliedDetail). (d.market, d.detail)) ds))
offers-with series reference rows n [] [] all same = refl
offers-with series reference rows n [] (x ∷ offers) all same = absurd all
offers-with series reference rows n (d ∷ ds) [] all same = absurd all
offers-with series reference rows n (d ∷ ds) (x ∷ offers) all same =
    let own : x.prices ≡ d.detail.prices = cc same in
    let others : map (λ (o : Offer). o.prices) offers
    ≡ map (λ (e : SuppliedDetail). e.detail.prices) ds = cc same in
    let first : x ≡ offer_of series reference (n, (d.market, d.detail)) =
    all.0.1 ∙ ap (λ (ps : List Price). record
    (offer_of series reference (n, (d.market, d.detail))) { prices = ps }) own in
    let rest = offers-with series reference rows (n + 1) ds offers all.1 others in
    λ i. first i ∷ rest i

prices-answered : (rows : DeskRows) (read : List typed.OfferRow) (offers : List Offer)
    → AllZip (IsOfferOf rows) read offers
    → AllZip (λ (row : typed.OfferRow) prices. ArePricesAt row.series row.reference row.place rows
    prices) read (map (λ (o : Offer). o.prices) offers)
prices-answered rows [] [] all = tt
prices-answered rows [] (x ∷ offers) all = absurd all
prices-answered rows (r ∷ read) [] all = absurd all
prices-answered rows (r ∷ read) (x ∷ offers) all = (all.0.0, prices-answered rows read offers all.1)

-- the offers of a record in the tables are those of its entry
pub held_offers : (series reference : List ℕ) (e : Entry) (rows : DeskRows) (offers : List Offer)
    → HoldsEntry series reference (Some e) rows
    → AreOffersOf rows (record_row series reference) offers
    → offers ≡ entry_offers series reference e
held_offers series reference e rows offers h (read, are, all) =
    let same = held_offer_rows series reference (Some e) rows read h are in
    let of_rows = subst (λ l. AllZip (IsOfferOf rows) l offers) same all in
    let prices = held_prices series reference (Some e) rows (map (λ (o : Offer). o.prices) offers) h
    (prices-answered rows (offer_rows_of series reference e.supplies) offers of_rows) in
    offers-with series reference rows 1 (supplied_details e.supplies) offers of_rows prices ∙ ap
    (λ l. map (offer_of series reference) (enumerate_from 1 l)) (placed-details 1 e.supplies)

-- ---- the offers of records in turn

-- the series, the reference and the entry of a record
abbrev pub Record : Type 0
Record = List ℕ × (List ℕ × Entry)

abbrev offers_of : Record → List Offer
offers_of x = entry_offers x.0 x.1.0 x.1.1

-- the offers of records that the tables hold, one record after the other
pub held_in_turn : (rows : DeskRows) (xs : List Record) (offers : List Offer)
    → AllByRecursion (λ x. HoldsEntry x.0 x.1.0 (Some x.1.1) rows) xs
    → AreOffersInTurn rows (map (λ (x : Record). record_row x.0 x.1.0) xs) offers
    → offers ≡ flat_map (λ (x : Record). entry_offers x.0 x.1.0 x.1.1) xs
held_in_turn rows [] offers h all = all
held_in_turn rows (x ∷ xs) offers h (here, rest, own, others, both) =
    both ∙ ap (λ l. l ++ rest) (held_offers x.0 x.1.0 x.1.1 rows here h.0 own) ∙ ap
    (λ l. offers_of x ++ l) (held_in_turn rows xs rest h.1 others)

-- the records of a catalogue that have the article
abbrev pub records_with : List ℕ → List ℕ × List (List ℕ × Entry) → List Record
records_with isbn c = map (λ (r : List ℕ × Entry). (c.0, r))
    (filter (λ (r : List ℕ × Entry). has_article isbn r.1) c.1)

pub offers-listed : (isbn series : List ℕ) (rs : List (List ℕ × Entry))
    → flat_map (λ (x : Record). entry_offers x.0 x.1.0 x.1.1) (records_with isbn (series, rs))
    ≡ flat_map (record_offers series isbn) rs
offers-listed isbn series [] = refl
offers-listed isbn series (r ∷ rs) =
    elim (has_article isbn r.1) as (λ b. flat_map (λ (x : Record). entry_offers x.0 x.1.0 x.1.1)
    (map (λ (q : List ℕ × Entry). (series, q))
    (cond b (r ∷ filter (λ (q : List ℕ × Entry). has_article isbn q.1) rs)
    (filter (λ (q : List ℕ × Entry). has_article isbn q.1) rs)))
    ≡ cond b (entry_offers series r.0 r.1) [] ++ flat_map (record_offers series isbn) rs) [
      | true ↦ ap (λ l. entry_offers series r.0 r.1 ++ l) (offers-listed isbn series rs)
      | false ↦ offers-listed isbn series rs
    ]
