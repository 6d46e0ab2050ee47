-- Ten fields, one by one.
use Rattle.std.proofs.Common.{◌≡◌, ◌≤◌, ◌<◌, ◌∷◌, [], List, length, map, get_or, refl, arith}

-- what f makes of ten elements
pub ten-are : {X Y : Type 0} (f : X → Y) (xs : List X) (d : X) → 10 ≤ length xs → length xs < 11
    → map f xs ≡ f (get_or xs 0 d) ∷ f (get_or xs 1 d) ∷ f (get_or xs 2 d) ∷ f (get_or xs 3 d) ∷ f (get_or xs 4 d) ∷ f (get_or xs 5 d) ∷ f (get_or xs 6 d) ∷ f (get_or xs 7 d) ∷ f (get_or xs 8 d) ∷ f (get_or xs 9 d) ∷ []
ten-are f (x0 ∷ x1 ∷ x2 ∷ x3 ∷ x4 ∷ x5 ∷ x6 ∷ x7 ∷ x8 ∷ x9 ∷ []) d low high = refl
ten-are f [] d low high = absurd (omega (arith, low))
ten-are f (x0 ∷ []) d low high = absurd (omega (arith, low))
ten-are f (x0 ∷ x1 ∷ []) d low high = absurd (omega (arith, low))
ten-are f (x0 ∷ x1 ∷ x2 ∷ []) d low high = absurd (omega (arith, low))
ten-are f (x0 ∷ x1 ∷ x2 ∷ x3 ∷ []) d low high = absurd (omega (arith, low))
ten-are f (x0 ∷ x1 ∷ x2 ∷ x3 ∷ x4 ∷ []) d low high = absurd (omega (arith, low))
ten-are f (x0 ∷ x1 ∷ x2 ∷ x3 ∷ x4 ∷ x5 ∷ []) d low high = absurd (omega (arith, low))
ten-are f (x0 ∷ x1 ∷ x2 ∷ x3 ∷ x4 ∷ x5 ∷ x6 ∷ []) d low high = absurd (omega (arith, low))
ten-are f (x0 ∷ x1 ∷ x2 ∷ x3 ∷ x4 ∷ x5 ∷ x6 ∷ x7 ∷ []) d low high = absurd (omega (arith, low))
ten-are f (x0 ∷ x1 ∷ x2 ∷ x3 ∷ x4 ∷ x5 ∷ x6 ∷ x7 ∷ x8 ∷ []) d low high = absurd (omega (arith, low))
ten-are f (x0 ∷ x1 ∷ x2 ∷ x3 ∷ x4 ∷ x5 ∷ x6 ∷ x7 ∷ x8 ∷ x9 ∷ y ∷ more) d low high = absurd (omega (arith, high))
