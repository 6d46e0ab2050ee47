-- The rows of one record among those of a table: what a change leaves of them, and of the others.
use Rattle.std.proofs.Common.{◌≡◌, ℕ, Bool, true, false, not, ◌&&◌, List, [], ◌∷◌, ◌++◌, map, filter, IsPermutation, refl, sym, ap, ◌∙◌, inl, inr, arith}
use Rattle.std.specs.List.{AllByRecursion, list_any, enumerate_from}
use Rattle.std.specs.Str.{bytes_eq}
use Rattle.std.proofs.lemmas.Bool.{cases_Bool, and_parts}
use Rattle.std.proofs.lemmas.List.{append-nil}
use Rattle.std.proofs.lemmas.List.Elements.{filter-append}
use Rattle.std.proofs.lemmas.List.Sorted.{length_permutation}
use Rattle.std.proofs.lemmas.Slice.Eq.{bytes_eq-Decides}
use Rattle.sqlite_trees.proofs.ListLemmas.{all_of, all_weaker, all-filter, all-flat_map, all-map, filter-filter, filter_all, filter_none}
use Rattle.onix_records.specs.declared.parts.ProductIdentifier.{ProductIdentifier}
use Rattle.onix_records.specs.declared.parts.ProductSupply.{ProductSupply}
use Rattle.desk_tables.specs.RecordChanges.{is_article_of, is_offer_of, is_price_of, is_minimum_of}
use Rattle.desk_tables.specs.RecordRows.{offer_row, price_row, minimum_row}
use Rattle.desk_tables.specs.declared.prices.PriceRow as typed_price
use Rattle.desk_catalogue.specs.EntryRows.{article_row, article_rows, offer_row_of, offer_rows_of, offer_price_row, offer_price_rows, price_rows_of, supplied_details, has_minimum}

-- ---- lists

pub none_left : {A : Type 0} (xs : List A) → IsPermutation xs [] → xs ≡ []
none_left [] p = refl
none_left (x ∷ xs) p = absurd (let e = length_permutation (x ∷ xs) [] p in omega (arith, e))

module _ {A : Type 0} (t : A → Bool) where
  pub any_none : (xs : List A) → filter t xs ≡ [] → list_any t xs ≡ false
  any_none [] e = refl
  any_none (x ∷ xs) e = elim (cases_Bool (t x)) [
    | inl here ↦ absurd (let f = rw here at e in cc)
    | inr misses ↦ rw misses (any_none xs (rw misses at e))
  ]

  -- what is added is all that the record has
  pub own_after : (base added : List A) → filter t base ≡ [] → AllByRecursion (λ x. t x ≡ true) added → filter t (base ++ added) ≡ added
  own_after base added none all = filter-append t base added ∙ ap (λ l. l ++ filter t added) none ∙ filter_all t added all

  -- and the others stay
  pub others_after : (base added : List A) → AllByRecursion (λ x. t x ≡ true) added → filter (λ x. not (t x)) (base ++ added) ≡ filter (λ x. not (t x)) base
  others_after base added all =
      filter-append (λ x. not (t x)) base added
      ∙ ap (λ l. filter (λ x. not (t x)) base ++ l) (filter_none (λ x. not (t x)) added (all_weaker (λ x. t x ≡ true) (λ x. not (t x) ≡ false) (λ x e. ap not e) added all))
      ∙ append-nil (filter (λ x. not (t x)) base)

  -- after a removal the record has none
  pub own_gone : (xs : List A) → filter t (filter (λ x. not (t x)) xs) ≡ []
  own_gone [] = refl
  own_gone (x ∷ xs) = elim (cases_Bool (t x)) [
    | inl here ↦ rw here (own_gone xs)
    | inr misses ↦ rw (misses, misses) (own_gone xs)
  ]

  pub others_gone : (xs : List A) → filter (λ x. not (t x)) (filter (λ x. not (t x)) xs) ≡ filter (λ x. not (t x)) xs
  others_gone xs = filter-filter (λ x. not (t x)) (λ x. not (t x)) (λ x e. e) xs

  -- rows of which the others stayed have the same rows of each other record
  pub spared : (u : A → Bool) → ((x : A) → u x ≡ true → t x ≡ false) → (xs ys : List A) → filter (λ x. not (t x)) ys ≡ filter (λ x. not (t x)) xs → filter u ys ≡ filter u xs
  spared u apart xs ys same =
      sym (filter-filter u (λ x. not (t x)) (λ x e. ap not (apart x e)) ys) ∙ ap (filter u) same ∙ filter-filter u (λ x. not (t x)) (λ x e. ap not (apart x e)) xs

-- ---- the rows of an entry are those of its record

pub same_text : (s : List ℕ) → bytes_eq s s ≡ true
same_text s = (bytes_eq-Decides s s).1 refl

pub keyed : (s r : List ℕ) → (bytes_eq s s && bytes_eq r r) ≡ true
keyed s r = rw (same_text s, same_text r) refl

pub articles_own : (s r : List ℕ) (ids : List ProductIdentifier) → AllByRecursion (λ x. is_article_of s r x ≡ true) (article_rows s r ids)
articles_own s r ids = all-map (λ x. is_article_of s r x ≡ true) (article_row s r) (enumerate_from 1 ids) (all_of _ (λ p. keyed s r) (enumerate_from 1 ids))

pub offers_own : (s r : List ℕ) (supplies : List ProductSupply) → AllByRecursion (λ x. is_offer_of s r x ≡ true) (map offer_row (offer_rows_of s r supplies))
offers_own s r supplies =
    let places = enumerate_from 1 (supplied_details supplies) in
    all-map (λ x. is_offer_of s r x ≡ true) offer_row (offer_rows_of s r supplies) (all-map (λ o. is_offer_of s r (offer_row o) ≡ true) (offer_row_of s r) places (all_of _ (λ p. keyed s r) places))

abbrev IsOwnPrice : List ℕ → List ℕ → typed_price.PriceRow → Type 0
IsOwnPrice s r q = (bytes_eq q.series s && bytes_eq q.reference r) ≡ true

prices_keyed : (s r : List ℕ) (supplies : List ProductSupply) → AllByRecursion (IsOwnPrice s r) (price_rows_of s r supplies)
prices_keyed s r supplies =
    let places = enumerate_from 1 (supplied_details supplies) in
    all-flat_map (IsOwnPrice s r) (offer_price_rows s r) places
    (all_of _ (λ d. all-map (IsOwnPrice s r) (offer_price_row s r d.0) (enumerate_from 1 d.1.detail.prices) (all_of _ (λ p. keyed s r) (enumerate_from 1 d.1.detail.prices))) places)

pub prices_own : (s r : List ℕ) (supplies : List ProductSupply) → AllByRecursion (λ x. is_price_of s r x ≡ true) (map price_row (price_rows_of s r supplies))
prices_own s r supplies = all-map (λ x. is_price_of s r x ≡ true) price_row (price_rows_of s r supplies) (prices_keyed s r supplies)

pub minimums_own : (s r : List ℕ) (supplies : List ProductSupply) → AllByRecursion (λ x. is_minimum_of s r x ≡ true) (map minimum_row (filter has_minimum (price_rows_of s r supplies)))
minimums_own s r supplies =
    let prices = price_rows_of s r supplies in
    all-map (λ x. is_minimum_of s r x ≡ true) minimum_row (filter has_minimum prices) (all-filter (IsOwnPrice s r) has_minimum prices (prices_keyed s r supplies))

-- ---- two records

pub apart_keys : (s r s′ r′ a b : List ℕ) → ((s′ ≡ s) × (r′ ≡ r) → ⊥) → (bytes_eq a s′ && bytes_eq b r′) ≡ true → (bytes_eq a s && bytes_eq b r) ≡ false
apart_keys s r s′ r′ a b apart there = elim (cases_Bool (bytes_eq a s && bytes_eq b r)) [
  | inl here ↦ (
      let one = and_parts _ _ there in
      let two = and_parts _ _ here in
      absurd (apart (sym ((bytes_eq-Decides a s′).0 one.0) ∙ (bytes_eq-Decides a s).0 two.0, sym ((bytes_eq-Decides b r′).0 one.1) ∙ (bytes_eq-Decides b r).0 two.1)))
  | inr misses ↦ misses
]
