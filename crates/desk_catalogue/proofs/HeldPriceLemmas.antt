-- What queries answer for the prices of an offer where the tables hold an entry.
use Rattle.std.specs.Prelude.{◌≡◌, ◌+◌, ◌==◌, ◌&&◌, ℕ, Bool, true, false, List, [], ◌∷◌, ◌++◌, map, filter, length, Option, Some, option_map}
use Rattle.std.specs.List.{AllByRecursion, AllZip, enumerate_from, flat_map}
use Rattle.std.specs.List.Sorted.{IsPermutation, IsStrictlySortedBy}
use Rattle.std.specs.Ordering.{nat_cmp}
use Rattle.std.specs.Str.{bytes_eq}
use Rattle.std.proofs.Common.{ap, append_assoc, arith, length-append, refl, subst, sym, ◌∙◌}
use Rattle.std.proofs.lemmas.Cmp.{nat_cmp_total}
use Rattle.std.proofs.lemmas.List.Concat.{flat_map_single}
use Rattle.std.proofs.lemmas.List.Elements.{filter_agree, recursion_from_All}
use Rattle.std.proofs.lemmas.List.Sorted.{IsPermutation-sym, IsPermutation-trans}
use Rattle.sqlite_trees.proofs.ListLemmas.{IsPermutation-filter, all-map, all_of, filter-map, map-map}
use Rattle.onix_records.specs.declared.parts.Price.{Price}
use Rattle.catalogue_rules.specs.declared.entry.Entry.{Entry}
use Rattle.desk_tables.specs.ArticleAnswers.{ArePricesAt, is_minimum_for, is_price_at, price_in, price_part}
use Rattle.desk_tables.specs.RecordChanges.{is_minimum_of, is_price_of}
use Rattle.desk_tables.specs.RecordReadings.{read_price}
use Rattle.desk_tables.specs.RecordRows.{PriceRow, minimum_row, price_columns, price_row}
use Rattle.desk_tables.specs.Rows.{DeskRows}
use Rattle.desk_tables.specs.declared.prices.MinimumRow.{MinimumRow}
use Rattle.desk_tables.specs.declared.offers.OfferRow as typed
use Rattle.desk_tables.specs.declared.prices.PriceRow as typed_price
use Rattle.desk_catalogue.specs.EntryRows.{SuppliedDetail, has_minimum, offer_price_row, offer_price_rows, offer_row_of, offer_rows_of, supplied_details, supplies_of}
use Rattle.desk_catalogue.proofs.HeldLemmas.{IsStorableSupplied, all-storable, same-list}
use Rattle.desk_catalogue.specs.Holding.{HoldsEntry}
use Rattle.desk_catalogue.proofs.PlaceLemmas.{filter-both, filter-swap, places-rise, rows-at}
use Rattle.desk_catalogue.proofs.ReadingLemmas.{minimum-back, price-back}
use Rattle.desk_catalogue.proofs.SortedLemmas.{sorted-permutation}
use Rattle.desk_catalogue.specs.Storable.{IsStorablePrice}

all-three : (a b c : Bool) → (a && (b && c)) ≡ ((a && b) && c)
all-three true b c = refl
all-three false b c = refl

module _ (series reference : List ℕ) where
  abbrev all_prices : List SuppliedDetail → List typed_price.PriceRow
  all_prices ds = flat_map (offer_price_rows series reference) (enumerate_from 1 ds)

  -- the tables have the prices and the minimums of these SupplyDetails
  record HasPrices (ds : List SuppliedDetail) (rows : DeskRows) : Type 0 where
    prices : IsPermutation (filter (is_price_of series reference) rows.prices)
        (map price_row (all_prices ds))
    minimums : IsPermutation (filter (is_minimum_of series reference) rows.minimums)
        (map minimum_row (filter has_minimum (all_prices ds)))

  own-places : (p : ℕ × SuppliedDetail) → AllByRecursion (λ r. r.place ≡ p.0)
      (offer_price_rows series reference p)
  own-places p = all-map (λ (r : typed_price.PriceRow). r.place ≡ p.0)
      (offer_price_row series reference p.0) (enumerate_from 1 p.1.detail.prices)
      (all_of (λ (q : ℕ × Price). p.0 ≡ p.0) (λ q. refl) (enumerate_from 1 p.1.detail.prices))

  at-detail : (place : ℕ) (before : List SuppliedDetail) (d : SuppliedDetail)
      (after : List SuppliedDetail) → place ≡ 1 + length before
      → filter (λ (r : typed_price.PriceRow). r.place == place) (all_prices (before ++ d ∷ after))
      ≡ offer_price_rows series reference (place, d)
  at-detail place before d after e = rows-at (offer_price_rows series reference)
      (λ (r : typed_price.PriceRow). r.place) own-places place 1 before d after e

  at-price : (place price_place : ℕ) (before : List Price) (p : Price) (after : List Price)
      → price_place ≡ 1 + length before
      → filter (λ (r : typed_price.PriceRow). r.price_place == price_place)
      (map (offer_price_row series reference place) (enumerate_from 1 (before ++ p ∷ after)))
      ≡ offer_price_row series reference place (price_place, p) ∷ []
  at-price place price_place before p after e =
      ap (filter (λ (r : typed_price.PriceRow). r.price_place == price_place))
      (sym (flat_map_single (offer_price_row series reference place)
      (enumerate_from 1 (before ++ p ∷ after))))
      ∙ rows-at (λ q. offer_price_row series reference place q ∷ [])
      (λ (r : typed_price.PriceRow). r.price_place) (λ q. (refl, tt)) price_place 1 before p
      after e

  -- the rows of the prices at a place are those of the SupplyDetail that stands there
  selected : (rows : DeskRows) (place : ℕ) (before : List SuppliedDetail) (d : SuppliedDetail)
      (after : List SuppliedDetail) → place ≡ 1 + length before
      → HasPrices (before ++ d ∷ after) rows
      → IsPermutation (filter (is_price_at series reference place) rows.prices)
      (map price_row (offer_price_rows series reference (place, d)))
  selected rows place before d after e has =
      let at : PriceRow → Bool = λ r. r.place == place in
      let all = all_prices (before ++ d ∷ after) in
      let passed = IsPermutation-filter at _ _ has.prices in
      let left : filter (is_price_at series reference place) rows.prices
      ≡ filter at (filter (is_price_of series reference) rows.prices) =
      filter_agree (is_price_at series reference place)
      (λ r. is_price_of series reference r && at r)
      (λ r. all-three (bytes_eq r.series series) (bytes_eq r.reference reference) (at r))
      rows.prices
      ∙ filter-both (is_price_of series reference) at rows.prices in
      let right : filter at (map price_row all)
      ≡ map price_row (offer_price_rows series reference (place, d)) =
      filter-map at price_row all ∙ ap (map price_row) (at-detail place before d after e) in
      subst (λ l. IsPermutation l (map price_row (offer_price_rows series reference (place, d))))
      (sym left) (subst (IsPermutation
      (filter at (filter (is_price_of series reference) rows.prices))) right passed)

  -- the rows of the minimum of a price are the one that it has, or none
  selected-minimum : (rows : DeskRows) (place price_place : ℕ) (before : List SuppliedDetail)
      (d : SuppliedDetail) (after : List SuppliedDetail) (first : List Price) (p : Price)
      (last : List Price)
      → place ≡ 1 + length before → price_place ≡ 1 + length first
      → d.detail.prices ≡ first ++ p ∷ last → HasPrices (before ++ d ∷ after) rows
      → IsPermutation (filter (is_minimum_for
      (price_row (offer_price_row series reference place (
        price_place,
        p,
      )))) rows.minimums) (map minimum_row
      (filter has_minimum (offer_price_row series reference place (price_place, p) ∷ [])))
  selected-minimum rows place price_place before d after first p last e f split has =
      let one = offer_price_row series reference place (price_place, p) in
      let at : typed_price.PriceRow → Bool = λ r. r.place == place in
      let at_price : typed_price.PriceRow → Bool = λ r. r.price_place == price_place in
      let test : MinimumRow → Bool = λ m. (m.place == place) && (m.price_place == price_place) in
      let all = all_prices (before ++ d ∷ after) in
      let passed = IsPermutation-filter test _ _ has.minimums in
      let left : filter (is_minimum_for (price_row one)) rows.minimums
      ≡ filter test (filter (is_minimum_of series reference) rows.minimums) =
      filter_agree (is_minimum_for (price_row one))
      (λ m. is_minimum_of series reference m && test m)
      (λ m. all-three (bytes_eq m.series series) (bytes_eq m.reference reference) (test m))
      rows.minimums
      ∙ filter-both (is_minimum_of series reference) test rows.minimums in
      let alone : filter (λ r. at r && at_price r) all ≡ one ∷ [] =
      filter-both at at_price all ∙ ap (filter at_price) (at-detail place before d after e)
      ∙ ap (λ (ps : List Price). filter at_price
      (map (offer_price_row series reference place)
      (enumerate_from 1 ps))) split ∙ at-price place price_place first p last f in
      let right : filter test (map minimum_row (filter has_minimum all))
      ≡ map minimum_row (filter has_minimum (one ∷ [])) =
      filter-map test minimum_row (filter has_minimum all) ∙ ap (map minimum_row)
      (filter-swap (λ r. at r && at_price r) has_minimum all ∙ ap (filter has_minimum) alone) in
      subst (λ l. IsPermutation l (map minimum_row (filter has_minimum (one ∷ [])))) (sym left)
      (subst (IsPermutation (filter test
      (filter (is_minimum_of series reference) rows.minimums))) right passed)

  one-read : (rows : DeskRows) (place price_place : ℕ) (before : List SuppliedDetail)
      (d : SuppliedDetail) (after : List SuppliedDetail) (first : List Price) (p : Price)
      (last : List Price)
      → place ≡ 1 + length before → price_place ≡ 1 + length first
      → d.detail.prices ≡ first ++ p ∷ last → IsStorablePrice p
      → HasPrices (before ++ d ∷ after) rows
      → price_in rows.minimums (price_row (offer_price_row series reference place (price_place, p)))
      ≡ Some p
  one-read rows place price_place before d after first p last e f split h has =
      let one = offer_price_row series reference place (price_place, p) in
      let minimum = minimum-back (is_minimum_for (price_row one)) rows.minimums one h.minimum
      (selected-minimum rows place price_place before d after first p last e f split has) in
      ap (λ (m : ℕ). option_map price_part (read_price m (price_columns (price_row one)))) minimum ∙
      ap (option_map price_part) (price-back one h.territory)

  prices-read : (rows : DeskRows) (place price_place : ℕ) (before : List SuppliedDetail)
      (d : SuppliedDetail) (after : List SuppliedDetail) (first last : List Price)
      → place ≡ 1 + length before → price_place ≡ 1 + length first → d.detail.prices ≡ first ++ last
      → AllByRecursion IsStorablePrice last → HasPrices (before ++ d ∷ after) rows
      → map (price_in rows.minimums) (map price_row
      (map (offer_price_row series reference place) (enumerate_from price_place last)))
      ≡ map (λ p. Some p) last
  prices-read rows place price_place before d after first [] e f split h has = refl
  prices-read rows place price_place before d after first (p ∷ last) e f split h has =
      let one = one-read rows place price_place before d after first p last e f split h.0 has in
      let longer = length-append first (p ∷ []) in
      let rest = prices-read rows place (price_place + 1) before d after (first ++ p ∷ []) last e
      (omega (arith, longer, f)) (split ∙ sym (append_assoc first (p ∷ []) last)) h.1 has in
      λ i. one i ∷ rest i

  -- the prices of one SupplyDetail
  prices-at : (rows : DeskRows) (place : ℕ) (before : List SuppliedDetail) (d : SuppliedDetail)
      (after : List SuppliedDetail) (got : List Price)
      → place ≡ 1 + length before → IsStorableSupplied d → HasPrices (before ++ d ∷ after) rows
      → ArePricesAt series reference place rows got → got ≡ d.detail.prices
  prices-at rows place before d after got e h has answered =
      let own = map price_row (offer_price_rows series reference (place, d)) in
      let place_of : PriceRow → ℕ = λ r. r.price_place in
      let as_one = map-map price_row (offer_price_row series reference place)
      (enumerate_from 1 d.detail.prices) in
      let up = subst (λ l. IsStrictlySortedBy nat_cmp (map place_of l)) (sym as_one)
      (places-rise (λ q. price_row (offer_price_row series reference place q)) place_of
      (λ q. refl) 1 d.detail.prices) in
      let in_order : answered.0 ≡ own = sorted-permutation nat_cmp_total place_of own answered.0 up
      (IsPermutation-trans _ _ _ (IsPermutation-sym _ _
      (selected rows place before d after e has)) answered.1) answered.2 in
      same-list got d.detail.prices (sym answered.3 ∙ ap (map (price_in rows.minimums)) in_order
      ∙ prices-read rows place 1 before d after [] d.detail.prices e refl refl
      (recursion_from_All IsStorablePrice d.detail.prices h.1.prices) has)

  abbrev IsAnswered : DeskRows → typed.OfferRow → List Price → Type 0
  IsAnswered rows row prices = ArePricesAt row.series row.reference row.place rows prices

  each-detail : (rows : DeskRows) (n : ℕ) (before ds : List SuppliedDetail)
      (read : List (List Price)) → n ≡ 1 + length before → AllByRecursion IsStorableSupplied ds
      → HasPrices (before ++ ds) rows
      → AllZip (IsAnswered rows) (map (offer_row_of series reference) (enumerate_from n ds)) read
      → read ≡ map (λ (d : SuppliedDetail). d.detail.prices) ds
  each-detail rows n before [] [] e h has answered = refl
  each-detail rows n before [] (p ∷ read) e h has answered = absurd answered
  each-detail rows n before (d ∷ ds) [] e h has answered = absurd answered
  each-detail rows n before (d ∷ ds) (p ∷ read) e h has answered =
      let one = prices-at rows n before d ds p e h.0 has answered.0 in
      let longer = length-append before (d ∷ []) in
      let rest = each-detail rows (n + 1) (before ++ d ∷ []) ds read (omega (arith, longer, e)) h.1
      (subst (λ l. HasPrices l rows) (sym (append_assoc before (d ∷ []) ds)) has) answered.1 in
      λ i. one i ∷ rest i

pub held_prices : (series reference : List ℕ) (o : Option Entry) (rows : DeskRows)
    (read : List (List Price)) → HoldsEntry series reference o rows
    → AllZip (λ (row : typed.OfferRow) prices. ArePricesAt row.series row.reference row.place rows
    prices) (offer_rows_of series reference (supplies_of o)) read
    → read ≡ map (λ (d : SuppliedDetail). d.detail.prices) (supplied_details (supplies_of o))
held_prices series reference o rows read h answered =
    each-detail series reference rows 1 [] (supplied_details (supplies_of o)) read refl
    (all-storable o h.storable) (record { prices = h.prices; minimums = h.minimums }) answered
