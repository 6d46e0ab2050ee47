-- Offers in the order of their places, with more of them at the end.
use Rattle.std.proofs.Common.{◌≡◌, ◌+◌, ◌++◌, ◌∷◌, ◌<◌, [], ℕ, List, arith, fold, get_or, length, map, refl, subst, sym, take, ap, ◌∙◌}
use Rattle.std.specs.List.{flat_map}
use Rattle.std.proofs.lemmas.Grind.{flat_map-append}
use Rattle.std.proofs.lemmas.List.{append-nil, length-append, length-map, take_more}
use Rattle.std.proofs.lemmas.List.Sums.{fold-append, sum_by-cons}
use Rattle.onix_records.specs.DetailCount.{detail_count}
use Rattle.onix_records.specs.declared.parts.ProductSupply.{ProductSupply}
use Rattle.onix_records.specs.declared.parts.SupplyDetail.{SupplyDetail}
use Rattle.onix_terms.specs.declared.territory.Territory.{Territory}
use Rattle.catalogue_rules.specs.Offers.{entry_details, offer_of, offers_from, supply_details}

module _ (series reference : List ℕ) where
  -- the places go on after those of the first list
  pub offers-append : (n : ℕ) (xs ys : List (Territory × SupplyDetail))
      → offers_from series reference n (xs ++ ys) ≡ offers_from series reference n xs ++ offers_from series reference (n + length xs) ys
  offers-append n [] ys = ap (λ m. offers_from series reference m ys) (omega arith)
  offers-append n (x ∷ xs) ys =
      ap (λ os. offer_of series reference (n, x) ∷ os)
      (offers-append (n + 1) xs ys ∙ ap (λ m. offers_from series reference (n + 1) xs ++ offers_from series reference m ys) (omega arith))

  -- one more SupplyDetail of a supply
  pub offers-push : (n : ℕ) (market : Territory) (ds : List SupplyDetail) (d : SupplyDetail)
      → offers_from series reference n (map (λ x. (market, x)) (ds ++ d ∷ []))
      ≡ offers_from series reference n (map (λ x. (market, x)) ds) ++ offer_of series reference (n + length ds, (market, d)) ∷ []
  offers-push n market [] d = ap (λ m. offer_of series reference (m, (market, d)) ∷ []) (omega arith)
  offers-push n market (x ∷ ds) d =
      ap (λ os. offer_of series reference (n, (market, x)) ∷ os)
      (offers-push (n + 1) market ds d
      ∙ ap (λ m. offers_from series reference (n + 1) (map (λ y. (market, y)) ds) ++ offer_of series reference (m, (market, d)) ∷ []) (omega arith))

length-entry_details : (supplies : List ProductSupply) → length (entry_details supplies) ≡ detail_count supplies
length-entry_details [] = refl
length-entry_details (s ∷ more) =
    let own = length-map {B = Territory × SupplyDetail} s.details (λ (d : SupplyDetail). (s.market, d)) in
    let both = length-append (supply_details s) (entry_details more) in
    let sum = sum_by-cons (λ (t : ProductSupply). length t.details) s more in
    let rest = length-entry_details more in
    omega (arith, own, both, sum, rest)

-- one more supply of a record
pub offers-supply : (series reference : List ℕ) (supplies : List ProductSupply) (s : ProductSupply)
    → offers_from series reference 1 (entry_details (supplies ++ s ∷ []))
    ≡ offers_from series reference 1 (entry_details supplies) ++ offers_from series reference (detail_count supplies + 1) (supply_details s)
offers-supply series reference supplies s =
    ap (offers_from series reference 1) (flat_map-append supply_details supplies (s ∷ []) ∙ ap (λ t. entry_details supplies ++ t) (append-nil (supply_details s)))
    ∙ offers-append series reference 1 (entry_details supplies) (supply_details s)
    ∙ ap (λ m. offers_from series reference 1 (entry_details supplies) ++ offers_from series reference m (supply_details s))
    (let l = length-entry_details supplies in omega (arith, l))

-- the next item of a slice that is this list
pub take-next : {X : Type 0} (xs slice : List X) (i : ℕ) (x : X) → slice ≡ xs → i < length slice → x ≡ get_or slice i x → take (i + 1) xs ≡ take i xs ++ x ∷ []
take-next xs slice i x e within is =
    subst (λ ys. take (i + 1) ys ≡ take i ys ++ x ∷ []) e (take_more slice i x within ∙ ap (λ y. take i slice ++ y ∷ []) (sym is))

-- one more record
pub walk-more : {S X Y : Type 0} (step : S → Y → S) (f : X → List Y) (out all : S) (left rest : List X) (x : X)
    → left ≡ x ∷ rest → fold step out (flat_map f left) ≡ all → fold step (fold step out (f x)) (flat_map f rest) ≡ all
walk-more step f out all left rest x e h = sym (fold-append step out (f x) (flat_map f rest)) ∙ ap (λ xs. fold step out (flat_map f xs)) (sym e) ∙ h
