-- Each SupplyDetail has a row of its own.
use Rattle.std.proofs.Common.{ℕ, ◌≤◌, ◌∷◌, [], List, arith, length, length-append}
use Rattle.std.specs.List.{All, flat_map}
use Rattle.std.proofs.lemmas.List.Elements.{All-nil, All-cons, All-weaker}
use Rattle.std.proofs.lemmas.List.Sums.{sum_by-cons}
use Rattle.onix_records.specs.DetailCount.{detail_count}
use Rattle.onix_records.specs.PartRows.{content_rows, detail_rows, product_rows, supply_rows}
use Rattle.onix_records.specs.declared.parts.Product.{Product}
use Rattle.onix_records.specs.declared.parts.ProductSupply.{ProductSupply}
use Rattle.onix_records.specs.declared.parts.SupplyDetail.{SupplyDetail}

length-details : (ds : List SupplyDetail) → length ds ≤ length (flat_map detail_rows ds)
length-details [] = omega arith
length-details (d ∷ ds) =
    let more = length-details ds in
    let both = length-append (detail_rows d) (flat_map detail_rows ds) in
    omega (arith, more, both)

count-rows : (ss : List ProductSupply) → detail_count ss ≤ length (flat_map supply_rows ss)
count-rows [] = omega arith
count-rows (s ∷ ss) =
    let own = length-details s.details in
    let more = count-rows ss in
    let both = length-append (supply_rows s) (flat_map supply_rows ss) in
    let sum = sum_by-cons (λ (t : ProductSupply). length t.details) s ss in
    omega (arith, own, more, both, sum)

abbrev HasAtMost : ℕ → Product → Type 0
HasAtMost n p = detail_count p.supplies ≤ n

wider : (m n : ℕ) → m ≤ n → (ps : List Product) → All (HasAtMost m) ps → All (HasAtMost n) ps
wider m n e ps h = All-weaker (HasAtMost m) (HasAtMost n) (λ p a. let b : detail_count p.supplies ≤ m = a in omega (arith, b, e)) ps h

within-rows : (ps : List Product) → All (HasAtMost (length (content_rows ps))) ps
within-rows [] = All-nil (HasAtMost 0)
within-rows (p ∷ ps) =
    let own = count-rows p.supplies in
    let both = length-append (product_rows p) (content_rows ps) in
    All-cons (HasAtMost (length (content_rows (p ∷ ps)))) p ps (omega (arith, own, both)) (wider (length (content_rows ps)) (length (content_rows (p ∷ ps))) (omega (arith, both)) ps (within-rows ps))

-- so no product has more of them than there are rows
pub details-within : (n : ℕ) (ps : List Product) → length (content_rows ps) ≤ n → All (λ p. detail_count p.supplies ≤ n) ps
details-within n ps e = wider (length (content_rows ps)) n e ps (within-rows ps)
