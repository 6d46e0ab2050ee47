-- Rows that are built go on with those of the next supply.
use Rattle.std.proofs.Common.{◌≡◌, ◌+◌, ◌++◌, ◌<◌, ◌∷◌, ◌∙◌, [], ℕ, List, ap, append_assoc, arith, drop, get_or, length, sym}
use Rattle.std.specs.List.{enumerate_from, flat_map}
use Rattle.std.proofs.lemmas.List.{drop_more, length-map}
use Rattle.onix_records.specs.declared.parts.ProductSupply.{ProductSupply}
use Rattle.onix_records.specs.declared.parts.SupplyDetail.{SupplyDetail}
use Rattle.desk_catalogue.specs.EntryRows.{SuppliedDetail, numbered_details}

pub enumerate-append : {D : Type 0} (n : ℕ) (xs ys : List D) → enumerate_from n (xs ++ ys) ≡ enumerate_from n xs ++ enumerate_from (n + length xs) ys
enumerate-append n [] ys = ap (λ m. enumerate_from m ys) (omega arith)
enumerate-append n (x ∷ xs) ys = ap (λ l. (n, x) ∷ l) (enumerate-append (n + 1) xs ys ∙ ap (λ m. enumerate_from (n + 1) xs ++ enumerate_from m ys) (omega arith))

pub next-supply : {X : Type 0} (rows_of : List (ℕ × SuppliedDetail) → List X) → ((xs ys : List (ℕ × SuppliedDetail)) → rows_of (xs ++ ys) ≡ rows_of xs ++ rows_of ys)
    → (out new all : List X) (place to number next : ℕ) (supplies : List ProductSupply) (i : ℕ) (s : ProductSupply) → i < length supplies → s ≡ get_or supplies i s
    → new ≡ out ++ rows_of (enumerate_from place (numbered_details (number, s))) → to ≡ place + length s.details → next ≡ number + 1
    → out ++ rows_of (enumerate_from place (flat_map numbered_details (enumerate_from number (drop i supplies)))) ≡ all
    → new ++ rows_of (enumerate_from to (flat_map numbered_details (enumerate_from next (drop (i + 1) supplies)))) ≡ all
next-supply rows_of joins out new all place to number next supplies i s within is added counted numbered before =
    let own = numbered_details (number, s) in
    let rest = flat_map numbered_details (enumerate_from (number + 1) (drop (i + 1) supplies)) in
    let long : to ≡ place + length own = counted ∙ ap (λ n. place + n) (sym (length-map {B = SuppliedDetail} s.details (λ (d : SupplyDetail). record { supply = number; market = s.market; detail = d }))) in
    let left : drop i supplies ≡ s ∷ drop (i + 1) supplies = drop_more supplies i s within ∙ ap (λ x. x ∷ drop (i + 1) supplies) (sym is) in
    ap (λ l. l ++ rows_of (enumerate_from to (flat_map numbered_details (enumerate_from next (drop (i + 1) supplies))))) added
    ∙ ap (λ n. (out ++ rows_of (enumerate_from place own)) ++ rows_of (enumerate_from to (flat_map numbered_details (enumerate_from n (drop (i + 1) supplies))))) numbered
    ∙ ap (λ n. (out ++ rows_of (enumerate_from place own)) ++ rows_of (enumerate_from n rest)) long
    ∙ append_assoc out (rows_of (enumerate_from place own)) (rows_of (enumerate_from (place + length own) rest))
    ∙ ap (λ l. out ++ l) (sym (joins (enumerate_from place own) (enumerate_from (place + length own) rest)))
    ∙ ap (λ l. out ++ rows_of l) (sym (enumerate-append place own rest))
    ∙ ap (λ l. out ++ rows_of (enumerate_from place (flat_map numbered_details (enumerate_from number l)))) (sym left)
    ∙ before
