-- The first of some reasons.
use Rattle.std.proofs.Common.{◌≡◌, List, [], ◌∷◌, ◌++◌, Option, Some, None, refl}
use Rattle.std.specs.Option.{option_or}
use Rattle.feed_mapping.specs.Notes.{Reason}
use Rattle.feed_mapping.specs.PriceTexts.{PriceTexts}
use Rattle.feed_mapping.specs.Prices.{PriceContext, date_reason, early_reasons, free_reason, last_reason, price_reasons}
use Rattle.feed_mapping.specs.Records.{first_some}

or_nothing : {A : Type 0} (x : Option A) → option_or x None ≡ x
or_nothing None = refl
or_nothing (Some x) = refl

-- a reason counts where none before it holds
pub last_counts : {A : Type 0} (xs : List (Option A)) (y : Option A) → None ≡ first_some xs → first_some (xs ++ y ∷ []) ≡ y
last_counts [] y e = or_nothing y
last_counts (None ∷ xs) y e = last_counts xs y e
last_counts (Some x ∷ xs) y e = absurd (differ e)
  where
    differ : {B : Type 0} {z : B} → None ≡ Some z → ⊥
    differ h = cc

-- a reason that holds counts whatever follows
pub earlier_counts : {A : Type 0} (xs ys : List (Option A)) (x : A) → Some x ≡ first_some xs → first_some (xs ++ ys) ≡ Some x
earlier_counts [] ys x e = absurd (differ e)
  where
    differ : {B : Type 0} {z : B} → Some z ≡ None → ⊥
    differ h = cc
earlier_counts (None ∷ xs) ys x e = earlier_counts xs ys x e
earlier_counts (Some y ∷ xs) ys x e = cc

module _ (context : PriceContext) (price : PriceTexts) where
  -- what the desk and the Prices beside it say of a Price counts where no earlier reason holds
  pub known : None ≡ first_some (early_reasons (date_reason price) (free_reason price) price) → first_some (price_reasons context price) ≡ last_reason context price
  known e = last_counts (early_reasons (date_reason price) (free_reason price) price) (last_reason context price) e

  -- a Price is left out for an earlier reason, whatever they say of it
  pub early : (kind : Reason) → Some kind ≡ first_some (early_reasons (date_reason price) (free_reason price) price) → first_some (price_reasons context price) ≡ Some kind
  early kind e = earlier_counts (early_reasons (date_reason price) (free_reason price) price) (last_reason context price ∷ []) kind e
