-- What rows keep of a storable entry is read back.
use Rattle.std.specs.Prelude.{◌≡◌, ◌≢◌, ◌≤◌, ℕ, ℤ, Bool, true, false, List, [], ◌∷◌, map, filter, find, Option, Some, None, IfSome, option_map, unwrap_or, nat_lt}
use Rattle.std.specs.List.Sorted.{IsPermutation}
use Rattle.std.proofs.Common.{refl, ap, arith, cond, ◌∙◌}
use Rattle.std.proofs.lemmas.Bool.{ltb-false}
use Rattle.std.proofs.lemmas.List.Sorted.{IsPermutation-sym, length_permutation}
use Rattle.sqlite.specs.Values.{or_null}
use Rattle.sqlite_trees.proofs.ListLemmas.{all-permutation}
use Rattle.sqlite_value.specs.declared.value.Value.TheVariants.{Int}
use Rattle.onix_terms.specs.Options.{◌>>=◌}
use Rattle.onix_terms.specs.Territory.{territory_of, countries_text, world_text}
use Rattle.onix_terms.specs.declared.party.Party.{Party}
use Rattle.onix_terms.specs.declared.territory.Territory.{Territory}
use Rattle.onix_terms.proofs.TerritoryTexts.{territory-back}
use Rattle.desk_tables.specs.RecordReadings.{bool_in, code_of, day_in, party_of, read_offer, read_price}
use Rattle.desk_tables.specs.RecordRows.{bit, minimum_row, offer_columns, offer_row, party_type, party_value, price_columns, price_row}
use Rattle.desk_tables.specs.Rows.{IsAddressee}
use Rattle.desk_tables.specs.declared.prices.MinimumRow.{MinimumRow}
use Rattle.desk_tables.specs.declared.offers.OfferRow as typed
use Rattle.desk_tables.specs.declared.prices.PriceRow as typed_price
use Rattle.desk_catalogue.specs.EntryRows.{has_minimum}
use Rattle.desk_catalogue.specs.Storable.{IsWritten}

bit-back : (b : Bool) → bool_in (Int (bit b)) ≡ Some b
bit-back true = refl
bit-back false = refl

named-party : (id_type id_value : List ℕ) → id_type ≢ []
    → party_of id_type id_value ≡ Some (record { id_type = id_type; id_value = id_value })
named-party [] id_value some = absurd (some refl)
named-party (b ∷ bs) id_value some = refl

party-back : (party : Option Party) → IsAddressee party
    → party_of (party_type party) (party_value party) ≡ party
party-back None h = refl
party-back (Some party) h = named-party party.id_type party.id_value h

named-code : (code : List ℕ) → code ≢ [] → code_of code ≡ Some code
named-code [] some = absurd (some refl)
named-code (b ∷ bs) some = refl

code-back : (code : Option (List ℕ)) → IfSome code (λ c. c ≢ [])
    → code_of (unwrap_or code []) ≡ code
code-back None h = refl
code-back (Some code) h = named-code code h

written-back : (t : Territory) → IsWritten t
    → territory_of (countries_text t.included) (world_text t.world) (countries_text t.excluded)
    ≡ Some t
written-back t w = (territory-back w.0 w.1 w.2 t w.3).reads

day-back : (day : Option ℤ) → day_in (or_null Int day) ≡ Some day
day-back None = refl
day-back (Some day) = refl

-- the three columns of a territory
columns-back : (t : Territory) → IsWritten t
    → (bool_in (Int (bit t.world)) >>= (λ world. territory_of (countries_text t.included)
    (world_text world) (countries_text t.excluded))) ≡ Some t
columns-back t w = ap (λ (b : Option Bool). b >>=
    (λ world. territory_of (countries_text t.included) (world_text world)
    (countries_text t.excluded))) (bit-back t.world) ∙ written-back t w

-- a row of `offer` is read as the row that it was made of
pub offer-back : (r : typed.OfferRow) → IsWritten r.market → IsAddressee r.supplier.party
    → IfSome r.unpriced (λ code. code ≢ []) → read_offer (offer_columns (offer_row r)) ≡ Some r
offer-back r market party unpriced =
    let row_with : Territory → Option Party → Option (List ℕ) → typed.OfferRow = λ m p u. record {
      series = r.series;
      reference = r.reference;
      place = r.place;
      supply = r.supply;
      market = m;
      supplier = record { role = r.supplier.role; party = p; name = r.supplier.name };
      availability = r.availability;
      unpriced = u;
    } in
    ap (λ (t : Option Territory). t >>= (λ m. Some
    (row_with m (party_of (party_type r.supplier.party) (party_value r.supplier.party))
    (code_of (unwrap_or r.unpriced []))))) (columns-back r.market market)
    ∙ ap (λ (p : Option Party). Some (row_with r.market p (code_of (unwrap_or r.unpriced []))))
    (party-back r.supplier.party party)
    ∙ ap (λ (u : Option (List ℕ)). Some (row_with r.market r.supplier.party u))
    (code-back r.unpriced unpriced)

-- a row of `price` is read, with its minimum, as the row that it was made of
pub price-back : (r : typed_price.PriceRow) → IsWritten r.price.territory
    → read_price r.price.minimum (price_columns (price_row r)) ≡ Some r
price-back r territory =
    let row_with : Territory → Option ℤ → Option ℤ → typed_price.PriceRow = λ t f u. record {
      series = r.series;
      reference = r.reference;
      place = r.place;
      price_place = r.price_place;
      price = record {
        price_type = r.price.price_type;
        amount = r.price.amount;
        currency =
            r.price.currency;
        territory = t;
        minimum = r.price.minimum;
        from = f;
        until = u;
      };
    } in
    ap (λ (t : Option Territory). t >>= (λ m. day_in (or_null Int r.price.from) >>=
    (λ f. day_in (or_null Int r.price.until) >>=
    (λ u. Some (row_with m f u))))) (columns-back r.price.territory territory)
    ∙ ap (λ (o : Option (Option ℤ)). o >>=
    (λ f. day_in (or_null Int r.price.until) >>=
    (λ u. Some (row_with r.price.territory f u)))) (day-back r.price.from)
    ∙ ap (λ (o : Option (Option ℤ)). o >>= (λ u. Some (row_with r.price.territory r.price.from u)))
    (day-back r.price.until)

-- ---- the minimum of a price

first_of_list : {A : Type 0} → List A → Option A
first_of_list [] = None
first_of_list (x ∷ xs) = Some x

find-filter : {A : Type 0} (p : A → Bool) (xs : List A) → find p xs ≡ first_of_list (filter p xs)
unfolding first_of_list
find-filter p [] = refl
find-filter p (x ∷ xs) = elim (p x) as (λ b. cond b (Some x) (find p xs)
    ≡ first_of_list (cond b (x ∷ filter p xs) (filter p xs))) [
      | true ↦ refl
      | false ↦ find-filter p
          xs
    ]

permuted-none : {A : Type 0} (xs : List A) → IsPermutation xs [] → xs ≡ []
permuted-none [] same = refl
permuted-none (x ∷ xs) same = let long =
    length_permutation (x ∷ xs) [] same in absurd (omega (arith, long))

permuted-one : {A : Type 0} (xs : List A) (y : A) → IsPermutation xs (y ∷ []) → xs ≡ y ∷ []
permuted-one [] y same = let long = length_permutation [] (y ∷ []) same in absurd
    (omega (arith, long))
permuted-one (x ∷ []) y same = let is = all-permutation (λ z. z ≡ y) (y ∷ []) (x ∷ [])
    (IsPermutation-sym (x ∷ []) (y ∷ []) same) (refl, tt) in ap (λ z. z ∷ []) is.0
permuted-one (x ∷ z ∷ xs) y same = let long =
    length_permutation (x ∷ z ∷ xs) (y ∷ []) same in absurd (omega (arith, long))

abbrev minimum_found : Option MinimumRow → ℕ
minimum_found found = unwrap_or (option_map (λ (r : MinimumRow). r.minimum) found) 1

one-found : (p : MinimumRow → Bool) (minimums : List MinimumRow) (r : typed_price.PriceRow)
    → filter p minimums ≡ minimum_row r ∷ []
    → minimum_found (first_of_list (filter p minimums)) ≡ r.price.minimum
unfolding first_of_list
one-found p minimums r is = ap (λ l. minimum_found (first_of_list l)) is

none-found : (p : MinimumRow → Bool) (minimums : List MinimumRow) (r : typed_price.PriceRow)
    → filter p minimums ≡ [] → 1 ≡ r.price.minimum
    → minimum_found (first_of_list (filter p minimums)) ≡ r.price.minimum
unfolding first_of_list
none-found p minimums r none one = ap (λ l. minimum_found (first_of_list l)) none ∙ one

-- the row that a test finds, where the rows that pass it are the one that the minimum of a price
-- has, or none
pub minimum-back : (p : MinimumRow → Bool) (minimums : List MinimumRow) (r : typed_price.PriceRow)
    → 1 ≤ r.price.minimum → IsPermutation (filter p minimums)
    (map minimum_row (filter has_minimum (r ∷ [])))
    → unwrap_or (option_map (λ (m : MinimumRow). m.minimum) (find p minimums)) 1 ≡ r.price.minimum
minimum-back p minimums r least same =
    let by_test : (b : Bool) → nat_lt 1 r.price.minimum ≡ b
    → IsPermutation (filter p minimums) (map minimum_row (cond b (r ∷ []) []))
    → minimum_found (first_of_list (filter p minimums)) ≡ r.price.minimum = λ b is passed.
    elim b as (λ c. nat_lt 1 r.price.minimum ≡ c
    → IsPermutation (filter p minimums) (map minimum_row (cond c (r ∷ []) []))
    → minimum_found (first_of_list (filter p minimums)) ≡ r.price.minimum) [
      | true ↦ λ above one. one-found p minimums r
          (permuted-one (filter p minimums) (minimum_row r) one)
      | false ↦ λ not_above none. none-found p minimums r (permuted-none (filter p minimums) none)
          (let bound = ltb-false 1 r.price.minimum not_above in omega (arith, bound, least))
    ] is passed in
    ap minimum_found (find-filter p minimums) ∙ by_test (nat_lt 1 r.price.minimum) refl same
