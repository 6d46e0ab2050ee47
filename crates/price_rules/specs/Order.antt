-- The best of a list, by one key after another.
use Rattle.std.specs.Prelude.{◌≡◌, ℕ, ◌<◌, List, All, Contains, Option, Some, None, ◌⊎◌, Bool, ◌&&◌, ◌||◌, fold, if◌then◌else◌}

abbrev pub IsLess : ℕ → ℕ → Type 0
IsLess a b = a < b

abbrev pub IsGreater : ℕ → ℕ → Type 0
IsGreater a b = b < a

-- x comes before y by their keys, or has the same key and comes before y by what follows
abbrev pub ByThen : {X K : Type 0} → (X → K) → (K → K → Type 0) → (X → X → Type 0) → X → X → Type 0
ByThen key Less Next x y = Less (key x) (key y) ⊎ ((key x ≡ key y) × Next x y)

-- x is in the list and passes, and none that passes comes before it; none if nothing passes
abbrev pub IsBest : {X : Type 0} → (X → Type 0) → (X → X → Type 0) → List X → Option X → Type 0
IsBest Passes Before xs None = All (λ x. Passes x → ⊥) xs
IsBest Passes Before xs (Some x) =
    Contains xs x × Passes x × All (λ y. Passes y → Before y x → ⊥) xs

-- the test of `ByThen`, of tests of its parts
abbrev pub by_then : {X K : Type 0} → (X → K) → (K → K → Bool) → (K → K → Bool) → (X → X → Bool)
    → X → X → Bool
by_then key less same next x y = less (key x) (key y) || (same (key x) (key y) && next x y)

-- the best so far, and the next item in its place where that passes and comes before it
abbrev pub better_of : {X : Type 0} → (X → Bool) → (X → X → Bool) → Option X → X → Option X
better_of passes before None x = if passes x then Some x else None
better_of passes before (Some best) x = if passes x && before x best then Some x else Some best

-- the best of a list
abbrev pub best_of : {X : Type 0} → (X → Bool) → (X → X → Bool) → List X → Option X
best_of passes before xs = fold (better_of passes before) None xs
