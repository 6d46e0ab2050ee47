-- Fields of a price, of which there are too few.
use Rattle.std.proofs.Common.{◌≡◌, ◌<◌, ◌∷◌, [], ℕ, List, None, arith, length, map, refl}
use Rattle.onix_records.specs.Price.{price_of}
use Rattle.onix_records.specs.declared.row.Opening.{Opening}

-- what stands for fewer than eight fields is no price
pub few-none : {X : Type 0} (f : X → List ℕ) (o : Opening) (xs : List X) → length xs < 8 → price_of o (map f xs) ≡ None
unfolding price_of
few-none f o [] few = refl
few-none f o (a ∷ []) few = refl
few-none f o (a ∷ b ∷ []) few = refl
few-none f o (a ∷ b ∷ c ∷ []) few = refl
few-none f o (a ∷ b ∷ c ∷ d ∷ []) few = refl
few-none f o (a ∷ b ∷ c ∷ d ∷ e ∷ []) few = refl
few-none f o (a ∷ b ∷ c ∷ d ∷ e ∷ g ∷ []) few = refl
few-none f o (a ∷ b ∷ c ∷ d ∷ e ∷ g ∷ h ∷ []) few = refl
few-none f o (a ∷ b ∷ c ∷ d ∷ e ∷ g ∷ h ∷ i ∷ more) few = absurd (omega (arith, few))
