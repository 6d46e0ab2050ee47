-- The rows of an entry are grouped to that entry.
use Rattle.std.proofs.Common.{◌≡◌, ◌≢◌, ◌≤◌, ◌+◌, ◌++◌, ◌∷◌, ◌∙◌, [], ℕ, List, ap, append_assoc, arith, length, length-append, map, refl, sym, true≢false}
use Rattle.std.specs.Prelude.{◌==◌, Bool, true, false, if◌then◌else◌, Result, Ok, Err, OnOk, is_err}
use Rattle.std.specs.List.{AllByRecursion, enumerate_from, flat_map, zip}
use Rattle.std.proofs.lemmas.Bool.{eq-eqb}
use Rattle.std.proofs.lemmas.Bool.Decides.{nat_tests}
use Rattle.std.proofs.lemmas.List.{append-nil}
use Rattle.std.proofs.lemmas.List.Elements.{recursion_from_All}
use Rattle.std.proofs.lemmas.List.Sums.{sum_by-append, sum_by-cons}
use Rattle.sqlite_trees.proofs.ListLemmas.{all_weaker}
use Rattle.onix_records.specs.DetailCount.{detail_count}
use Rattle.onix_records.specs.declared.parts.Price.{Price}
use Rattle.onix_records.specs.declared.parts.ProductIdentifier.{ProductIdentifier}
use Rattle.onix_records.specs.declared.parts.ProductSupply.{ProductSupply}
use Rattle.onix_records.specs.declared.parts.SupplyDetail.{SupplyDetail}
use Rattle.onix_terms.specs.declared.territory.Territory.{Territory}
use Rattle.desk_tables.specs.declared.offers.OfferRow as typed
use Rattle.desk_catalogue.specs.Assembly.{detail_of, grouped, identifier_of, joined, supply_of}
use Rattle.desk_catalogue.specs.EntryRows.{SuppliedDetail, article_row, article_rows, numbered_details, offer_row_of, offer_rows_of, supplied_details}
use Rattle.desk_catalogue.specs.Storable.{AreStorable, IsStorableSupply}

pub joined-last : (done : List ProductSupply) (s : ProductSupply) (d : SupplyDetail) → joined (done ++ s ∷ []) d ≡ done ++ record s { details = s.details ++ d ∷ [] } ∷ []
joined-last [] s d = refl
joined-last (t ∷ []) s d = refl
joined-last (t ∷ u ∷ done) s d = ap (λ l. t ∷ l) (joined-last (u ∷ done) s d)

ids-from : (series reference : List ℕ) (n : ℕ) (ids : List ProductIdentifier) → map identifier_of (map (article_row series reference) (enumerate_from n ids)) ≡ ids
ids-from series reference n [] = refl
ids-from series reference n (id ∷ ids) = ap (λ l. id ∷ l) (ids-from series reference (n + 1) ids)

pub ids-back : (series reference : List ℕ) (ids : List ProductIdentifier) → map identifier_of (article_rows series reference ids) ≡ ids
ids-back series reference ids = ids-from series reference 1 ids

module _ (series reference : List ℕ) where
  abbrev priced : ℕ → List SuppliedDetail → List (typed.OfferRow × List Price)
  priced place ds = zip (map (offer_row_of series reference) (enumerate_from place ds)) (map (λ (d : SuppliedDetail). d.detail.prices) ds)

  abbrev numbered : ℕ → Territory → List SupplyDetail → List SuppliedDetail
  numbered number market ds = map (λ (d : SupplyDetail). record { supply = number; market = market; detail = d }) ds

  -- the SupplyDetails of a supply join it, one after the other
  own-details : (number : ℕ) (done : List ProductSupply) (market : Territory) (place : ℕ) (got ds : List SupplyDetail) (more : List SuppliedDetail)
      → grouped number (done ++ record { market = market; details = got } ∷ []) (priced place (numbered number market ds ++ more))
      ≡ grouped number (done ++ record { market = market; details = got ++ ds } ∷ []) (priced (place + length ds) more)
  own-details number done market place got [] more =
      ap (λ (l : List SupplyDetail). grouped number (done ++ record { market = market; details = l } ∷ []) (priced place more)) (sym (append-nil got))
      ∙ ap (λ (n : ℕ). grouped number (done ++ record { market = market; details = got ++ [] } ∷ []) (priced n more)) (omega arith)
  own-details number done market place got (d ∷ ds) more =
      let rest = priced (place + 1) (numbered number market ds ++ more) in
      let last : ProductSupply = record { market = market; details = got } in
      let row : typed.OfferRow = offer_row_of series reference (place, record { supply = number; market = market; detail = d }) in
      ap (λ (b : Bool). grouped number (if b then joined (done ++ last ∷ []) d else (done ++ last ∷ []) ++ supply_of (row, d.prices) ∷ []) rest) (eq-eqb number number refl)
      ∙ ap (λ l. grouped number l rest) (joined-last done last d)
      ∙ own-details number done market (place + 1) (got ++ d ∷ []) ds more
      ∙ ap (λ (l : List SupplyDetail). grouped number (done ++ record { market = market; details = l } ∷ []) (priced ((place + 1) + length ds) more)) (append_assoc got (d ∷ []) ds)
      ∙ ap (λ (n : ℕ). grouped number (done ++ record { market = market; details = got ++ d ∷ ds } ∷ []) (priced n more)) (omega arith)

  begun : (number : ℕ) (done : List ProductSupply) (place : ℕ) (s : ProductSupply) (more : List SuppliedDetail) → s.details ≢ []
      → grouped number done (priced place (numbered_details (number + 1, s) ++ more)) ≡ grouped (number + 1) (done ++ s ∷ []) (priced (place + length s.details) more)
  begun number done place s more some = with-details s.details refl
    where
      with-details : (ds : List SupplyDetail) → s.details ≡ ds
          → grouped number done (priced place (numbered (number + 1) s.market s.details ++ more)) ≡ grouped (number + 1) (done ++ record { market = s.market; details = s.details } ∷ []) (priced (place + length s.details) more)
      with-details [] e = absurd (some e)
      with-details (d ∷ ds) e =
          let rest = priced (place + 1) (numbered (number + 1) s.market ds ++ more) in
          let row : typed.OfferRow = offer_row_of series reference (place, record { supply = number + 1; market = s.market; detail = d }) in
          let other : (number + 1 == number) ≡ false = grind (arith, nat_tests) in
          rw e (ap (λ (b : Bool). grouped (number + 1) (if b then joined done d else done ++ supply_of (row, d.prices) ∷ []) rest) other
          ∙ own-details (number + 1) done s.market (place + 1) (d ∷ []) ds more
          ∙ ap (λ (n : ℕ). grouped (number + 1) (done ++ record { market = s.market; details = d ∷ ds } ∷ []) (priced n more)) (omega arith))

  supplies-back : (number : ℕ) (done : List ProductSupply) (place : ℕ) (supplies : List ProductSupply) → AllByRecursion (λ s. s.details ≢ []) supplies
      → grouped number done (priced place (flat_map numbered_details (enumerate_from (number + 1) supplies))) ≡ done ++ supplies
  supplies-back number done place [] some = sym (append-nil done)
  supplies-back number done place (s ∷ supplies) some =
      begun number done place s (flat_map numbered_details (enumerate_from ((number + 1) + 1) supplies)) some.0
      ∙ supplies-back (number + 1) (done ++ s ∷ []) (place + length s.details) supplies some.1
      ∙ append_assoc done (s ∷ []) supplies

  pub grouped-back : (supplies : List ProductSupply) → AreStorable supplies → grouped 0 [] (zip (offer_rows_of series reference supplies) (map (λ (d : SuppliedDetail). d.detail.prices) (supplied_details supplies))) ≡ supplies
  grouped-back supplies h = supplies-back 0 [] 1 supplies (all_weaker IsStorableSupply (λ s. s.details ≢ []) (λ s k. k.details) supplies (recursion_from_All IsStorableSupply supplies h.each))

-- ---- each row adds at most one SupplyDetail

count-joined : (supplies : List ProductSupply) (d : SupplyDetail) → detail_count (joined supplies d) ≤ detail_count supplies + 1
count-joined [] d = omega arith
count-joined (s ∷ []) d =
    let one = sum_by-cons (λ (t : ProductSupply). length t.details) s [] in
    let two = sum_by-cons (λ (t : ProductSupply). length t.details) (record s { details = s.details ++ d ∷ [] }) [] in
    let both = length-append s.details (d ∷ []) in
    omega (arith, one, two, both)
count-joined (s ∷ t ∷ more) d =
    let one = sum_by-cons (λ (u : ProductSupply). length u.details) s (t ∷ more) in
    let two = sum_by-cons (λ (u : ProductSupply). length u.details) s (joined (t ∷ more) d) in
    let rest = count-joined (t ∷ more) d in
    omega (arith, one, two, rest)

count-begun : (supplies : List ProductSupply) (p : typed.OfferRow × List Price) → detail_count (supplies ++ supply_of p ∷ []) ≤ detail_count supplies + 1
count-begun supplies p =
    let both = sum_by-append (λ (t : ProductSupply). length t.details) supplies (supply_of p ∷ []) in
    let one = sum_by-cons (λ (t : ProductSupply). length t.details) (supply_of p) [] in
    omega (arith, both, one)

count-next : (b : Bool) (supplies : List ProductSupply) (p : typed.OfferRow × List Price) → detail_count (if b then joined supplies (detail_of p) else supplies ++ supply_of p ∷ []) ≤ detail_count supplies + 1
count-next true supplies p = count-joined supplies (detail_of p)
count-next false supplies p = count-begun supplies p

pub count-grouped : (number : ℕ) (supplies : List ProductSupply) (rows : List typed.OfferRow) (prices : List (List Price)) → detail_count (grouped number supplies (zip rows prices)) ≤ detail_count supplies + length rows
count-grouped number supplies [] prices = omega arith
count-grouped number supplies (r ∷ rows) [] = omega arith
count-grouped number supplies (r ∷ rows) (p ∷ prices) =
    let next = if r.supply == number then joined supplies (detail_of (r, p)) else supplies ++ supply_of (r, p) ∷ [] in
    let one = count-next (r.supply == number) supplies (r, p) in
    let rest = count-grouped r.supply next rows prices in
    omega (arith, one, rest)

pub on-ok : {A E : Type 0} (r : Result A E) (P : Type 0) → is_err r ≡ false → OnOk r P → P
on-ok (Ok x) P e h = h
on-ok (Err x) P e h = absurd (true≢false e)
