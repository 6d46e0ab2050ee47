-- The prices of the SupplyDetails of supplies, supply by supply.
use Rattle.std.proofs.Common.{◌≡◌, ◌+◌, ◌-◌, ◌++◌, ◌<◌, ◌≤◌, ◌↔◌, ◌∷◌, ◌∙◌, [], ℕ, List, ap, arith, drop, get_or, length, length-append, map, refl, sym, take}
use Rattle.std.specs.Prelude.{◌==◌, Bool, true}
use Rattle.std.specs.List.{enumerate_from, flat_map}
use Rattle.std.proofs.lemmas.Bool.{eqb-true}
use Rattle.std.proofs.lemmas.List.{drop_all, drop_more, drop_at, length-map, map-append, take-append-drop, take_at, take_rest}
use Rattle.sqlite_trees.proofs.ListLemmas.{map-map}
use Rattle.onix_records.specs.declared.parts.Price.{Price}
use Rattle.onix_records.specs.declared.parts.ProductSupply.{ProductSupply}
use Rattle.onix_records.specs.declared.parts.SupplyDetail.{SupplyDetail}
use Rattle.desk_catalogue.specs.EntryRows.{SuppliedDetail, numbered_details, supplied_details}

abbrev pub own_prices : ProductSupply → List (List Price)
own_prices s = map (λ (d : SupplyDetail). d.prices) s.details

abbrev pub all_prices : List ProductSupply → List (List Price)
all_prices supplies = flat_map own_prices supplies

prices-from : (n : ℕ) (supplies : List ProductSupply) → map (λ (d : SuppliedDetail). d.detail.prices) (flat_map numbered_details (enumerate_from n supplies)) ≡ all_prices supplies
prices-from n [] = refl
prices-from n (s ∷ more) =
    map-append (λ (d : SuppliedDetail). d.detail.prices) (numbered_details (n, s)) (flat_map numbered_details (enumerate_from (n + 1) more))
    ∙ ap (λ l. l ++ map (λ (d : SuppliedDetail). d.detail.prices) (flat_map numbered_details (enumerate_from (n + 1) more))) (map-map (λ (d : SuppliedDetail). d.detail.prices) (λ (d : SupplyDetail). record { supply = n; market = s.market; detail = d }) s.details)
    ∙ ap (λ l. own_prices s ++ l) (prices-from (n + 1) more)

pub supplied-prices : (supplies : List ProductSupply) → map (λ (d : SuppliedDetail). d.detail.prices) (supplied_details supplies) ≡ all_prices supplies
supplied-prices supplies = prices-from 1 supplies

-- A rest of what was read stands against the supplies that are left.
module _ (A : Type 0) (rest : List (List Price)) (supplies : List ProductSupply) (i : ℕ) (s : ProductSupply) (n : ℕ)
    (within : i < length supplies) (is : s ≡ get_or supplies i s) (count : n ≡ length s.details) (stands : A ↔ (rest ≡ all_prices (drop i supplies))) where
  left-is : all_prices (drop i supplies) ≡ own_prices s ++ all_prices (drop (i + 1) supplies)
  left-is = ap all_prices (drop_more supplies i s within ∙ ap (λ x. x ∷ drop (i + 1) supplies) (sym is))

  own-long : length (own_prices s) ≡ n
  own-long = length-map {B = List Price} s.details (λ (d : SupplyDetail). d.prices) ∙ sym count

  pub too-short : length rest < n → A → ⊥
  too-short few a =
      let long = ap length (stands.0 a ∙ left-is) in
      let both = length-append (own_prices s) (all_prices (drop (i + 1) supplies)) in
      let own = own-long in
      omega (arith, few, long, both, own)

  pub other-prices : (take n rest ≡ own_prices s → ⊥) → A → ⊥
  other-prices differ a = differ (ap (take n) (stands.0 a ∙ left-is) ∙ take_at (own_prices s) (all_prices (drop (i + 1) supplies)) n own-long)

  pub next-rest : take n rest ≡ own_prices s → A ↔ (take (length rest - n) (drop n rest) ≡ all_prices (drop (i + 1) supplies))
  next-rest same = (
    λ a. take_rest rest n ∙ ap (drop n) (stands.0 a ∙ left-is) ∙ drop_at (own_prices s) (all_prices (drop (i + 1) supplies)) n own-long,
    λ e. stands.1 (sym (take-append-drop n rest) ∙ ap (λ l. l ++ drop n rest) same ∙ ap (λ l. own_prices s ++ l) (sym (take_rest rest n) ∙ e) ∙ sym left-is),
  )

-- if no supply is left, what was read is the same if none of it is left
no-length : (xs : List (List Price)) → (length xs == 0) ≡ true → xs ≡ []
no-length [] e = refl
no-length (x ∷ xs) e = let none = eqb-true (length (x ∷ xs)) 0 e in absurd (omega (arith, none))

pub none-left : (A : Type 0) (rest : List (List Price)) (supplies : List ProductSupply) (i : ℕ) (empty : Bool) → length supplies ≤ i → empty ≡ (length rest == 0) → A ↔ (rest ≡ all_prices (drop i supplies)) → (empty ≡ true) ↔ A
none-left A rest supplies i empty past is stands =
    let none : all_prices (drop i supplies) ≡ [] = ap all_prices (drop_all i supplies past) in
    (λ e. stands.1 (no-length rest (sym is ∙ e) ∙ sym none), λ a. is ∙ ap (λ (l : List (List Price)). length l == 0) (stands.0 a ∙ none))
