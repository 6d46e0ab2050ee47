-- Steps that may have no result.
use Rattle.std.specs.Prelude.{List, [], ◌∷◌, Option, Some, None}

infixl 10 ◌>>=◌
-- what f makes of a value, if there is one
abbrev pub ◌>>=◌ : {A B : Type 0} → Option A → (A → Option B) → Option B
None >>= f = None
(Some x) >>= f = f x

-- a list that is not empty
abbrev pub nonempty : {A : Type 0} → List A → Option (List A)
nonempty [] = None
nonempty (x ∷ xs) = Some (x ∷ xs)
