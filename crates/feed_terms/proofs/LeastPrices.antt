-- One more price among those of which each has another minimum.
use Rattle.std.proofs.Common.{◌≡◌, ◌<◌, ◌+◌, ℕ, zero, suc, List, [], ◌∷◌, ◌++◌, Bool, true, false, cond, Option, Some, None, length, get_or, set, min, position, refl, sym, ap, subst, arith, ◌∙◌}
use Rattle.std.specs.Prelude.{◌==◌, nat_lt}
use Rattle.std.specs.Option.{option_or}
use Rattle.std.specs.Ordering.{is_eq, nat_cmp}
use Rattle.std.specs.List.{position_from}
use Rattle.std.proofs.lemmas.Bool.Decides.{nat_tests}
use Rattle.std.proofs.lemmas.List.Quantifiers.{position-Some}
use Rattle.std.proofs.lemmas.Iterator.Adapters.{position_from-zero}
use Rattle.feed_terms.specs.Computed.{with_least}
use Rattle.feed_terms.specs.declared.computed.ComputedPrice.{ComputedPrice}

module _ (price : ComputedPrice) where
  abbrev is_same : ComputedPrice → Bool
  is_same p = p.minimum == price.minimum

  -- a price with the lesser amount of both
  abbrev lesser : ComputedPrice → ComputedPrice
  lesser first = record first { amount = min first.amount price.amount }

  at_first : (xs : List ComputedPrice) (i : ℕ) (d : ComputedPrice) → i < length xs → is_same (get_or xs i d) ≡ true → ((k : ℕ) → k < i → is_same (get_or xs k d) ≡ false) → set xs i (lesser (get_or xs i d)) ≡ with_least xs price
  at_first [] i d l here before = absurd (omega arith)
  at_first (x ∷ xs) zero d l here before = rw here refl
  at_first (x ∷ xs) (suc i) d l here before =
      let other : is_same x ≡ false = before 0 (omega arith) in
      rw other (ap (λ rest. x ∷ rest) (at_first xs i d (omega arith) here (λ k below. before (suc k) (omega arith))))

  pub least_old : (xs : List ComputedPrice) (first : ComputedPrice) (i n : ℕ) → position is_same xs ≡ Some i → first ≡ get_or xs i first → n ≡ min first.amount price.amount
      → set xs i (record { price_type = first.price_type; amount = n; minimum = first.minimum }) ≡ with_least xs price
  least_old xs first i n at is least =
      let facts = position-Some is_same xs i first at in
      ap (λ (m : ℕ). set xs i (record first { amount = m })) least ∙ ap (λ p. set xs i (lesser p)) is ∙ at_first xs i first facts.0 facts.1 facts.2

  none_from : (i : ℕ) (xs : List ComputedPrice) → position_from is_same i xs ≡ None → xs ++ price ∷ [] ≡ with_least xs price
  none_from i [] e = refl
  none_from i (x ∷ xs) e = go (none_from (i + 1) xs) (is_same x) e
    where
      go : (position_from is_same (i + 1) xs ≡ None → xs ++ price ∷ [] ≡ with_least xs price) → (b : Bool) → cond b (Some i) (position_from is_same (i + 1) xs) ≡ None
          → x ∷ (xs ++ price ∷ []) ≡ cond b (lesser x ∷ xs) (x ∷ with_least xs price)
      go more true e = cc
      go more false e = ap (λ rest. x ∷ rest) (more e)

  pub least_new : (xs : List ComputedPrice) → position is_same xs ≡ None → xs ++ price ∷ [] ≡ with_least xs price
  least_new xs at = none_from 0 xs (sym (position_from-zero is_same xs) ∙ at)

-- ---- where the price from a number of copies on is

abbrev is_from : ℕ → ComputedPrice → Bool
is_from m p = p.minimum == m

from_push : (m k : ℕ) (xs : List ComputedPrice) (y : ComputedPrice) → position_from (is_from m) k (xs ++ y ∷ []) ≡ option_or (position_from (is_from m) k xs) (cond (is_from m y) (Some (k + length xs)) None)
from_push m k [] y = ap (λ n. cond (is_from m y) (Some n) None) (omega arith)
from_push m k (x ∷ xs) y = go (from_push m (k + 1) xs y) (is_from m x) refl
  where
    go : position_from (is_from m) (k + 1) (xs ++ y ∷ []) ≡ option_or (position_from (is_from m) (k + 1) xs) (cond (is_from m y) (Some (k + 1 + length xs)) None) → (b : Bool) → is_from m x ≡ b
        → cond b (Some k) (position_from (is_from m) (k + 1) (xs ++ y ∷ [])) ≡ option_or (cond b (Some k) (position_from (is_from m) (k + 1) xs)) (cond (is_from m y) (Some (k + suc (length xs))) None)
    go more true e = refl
    go more false e = more ∙ ap (λ n. option_or (position_from (is_from m) (k + 1) xs) (cond (is_from m y) (Some n) None)) (omega arith)

ties : (k m : ℕ) → is_eq (nat_cmp k m) ≡ (k == m)
ties k m = go (nat_lt k m) refl (k == m) refl
  where
    go : (a : Bool) → nat_lt k m ≡ a → (b : Bool) → (k == m) ≡ b → is_eq (nat_cmp k m) ≡ (k == m)
    go true e true f = grind (arith, nat_tests)
    go true e false f = rw (e, f) refl
    go false e true f = rw (e, f) refl
    go false e false f = rw (e, f) refl

or_none : (o : Option ℕ) → option_or o None ≡ o
or_none None = refl
or_none (Some n) = refl

-- one more at the end, of which there was none
pub places_new : (xs : List ComputedPrice) (y : ComputedPrice) → position (is_from y.minimum) xs ≡ None → (m : ℕ)
    → cond (is_eq (nat_cmp y.minimum m)) (Some (length xs)) (position (is_from m) xs) ≡ position (is_from m) (xs ++ y ∷ [])
places_new xs y none m = go (y.minimum == m) refl
  where
    pushed : position (is_from m) (xs ++ y ∷ []) ≡ option_or (position (is_from m) xs) (cond (is_from m y) (Some (length xs)) None)
    pushed =
        position_from-zero (is_from m) (xs ++ y ∷ []) ∙ from_push m 0 xs y
        ∙ ap (λ o. option_or o (cond (is_from m y) (Some (0 + length xs)) None)) (sym (position_from-zero (is_from m) xs))
        ∙ ap (λ n. option_or (position (is_from m) xs) (cond (is_from m y) (Some n) None)) (omega arith)

    go : (b : Bool) → (y.minimum == m) ≡ b → cond (is_eq (nat_cmp y.minimum m)) (Some (length xs)) (position (is_from m) xs) ≡ position (is_from m) (xs ++ y ∷ [])
    go true e =
        let same : y.minimum ≡ m = grind (arith, nat_tests) in
        let free : position (is_from m) xs ≡ None = subst (λ n. position (is_from n) xs ≡ None) same none in
        ap (λ b. cond b (Some (length xs)) (position (is_from m) xs)) (ties y.minimum m ∙ e)
        ∙ sym (pushed ∙ ap (λ b. option_or (position (is_from m) xs) (cond b (Some (length xs)) None)) e ∙ ap (λ o. option_or o (Some (length xs))) free)
    go false e =
        ap (λ b. cond b (Some (length xs)) (position (is_from m) xs)) (ties y.minimum m ∙ e)
        ∙ sym (pushed ∙ ap (λ b. option_or (position (is_from m) xs) (cond b (Some (length xs)) None)) e ∙ or_none (position (is_from m) xs))
