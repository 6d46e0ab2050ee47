-- No computed amount is above that of its price.
use Rattle.std.proofs.Common.{◌≡◌, ◌≤◌, ◌*◌, ◌/◌, ℕ, List, [], ◌∷◌, Bool, true, false, cond, Option, Some, None, fold, map, min, refl, arith}
use Rattle.std.specs.List.{All, AllByRecursion}
use Rattle.std.specs.Prelude.{nat_lt, ◌==◌}
use Rattle.std.proofs.lemmas.Bool.Decides.{nat_tests}
use Rattle.std.proofs.lemmas.List.Elements.{All-from_recursion}
use Rattle.feed_terms.specs.Amounts.{net_amount, rounded}
use Rattle.feed_terms.specs.Computed.{all_computed, computed_by, computed_with, discounts_of, tax_of, with_least}
use Rattle.feed_terms.specs.declared.computed.ComputedPrice.{ComputedPrice}
use Rattle.feed_terms.specs.declared.price.Discount.{Discount}
use Rattle.feed_terms.specs.declared.price.GivenPrice.{GivenPrice}
use Rattle.feed_terms.specs.declared.term.Term.{Term}

capped : (amount r : ℕ) (b : Bool) → nat_lt amount r ≡ b → cond b (10 * (amount / 10)) r ≤ amount
capped amount r true e = omega arith
capped amount r false e = grind (arith, nat_tests)

pub net_amount-le : (amount tax discount : ℕ) → net_amount amount tax discount ≤ amount
net_amount-le amount tax discount = capped amount (10 * rounded amount tax discount) (nat_lt amount (10 * rounded amount tax discount)) refl

module _ (most : ℕ) where
  abbrev IsWithin : ComputedPrice → Type 0
  IsWithin c = c.amount ≤ most

  within-min : (first c : ComputedPrice) (rest : List ComputedPrice) → AllByRecursion IsWithin (first ∷ rest) → AllByRecursion IsWithin (record first { amount = min first.amount c.amount } ∷ rest)
  within-min first c rest all = (let first_within : first.amount ≤ most = all.0 in omega arith, all.1)

  within-least : (found : List ComputedPrice) (c : ComputedPrice) → AllByRecursion IsWithin found → IsWithin c → AllByRecursion IsWithin (with_least found c)
  within-least [] c all here = (here, tt)
  within-least (first ∷ rest) c all here =
      elim (first.minimum == c.minimum) as (λ b. AllByRecursion IsWithin (cond b (record first { amount = min first.amount c.amount } ∷ rest) (first ∷ with_least rest c))) [
        | true ↦ within-min first c rest all
        | false ↦ (all.0, within-least rest c all.1 here)
      ]

  within-fold : (found cs : List ComputedPrice) → AllByRecursion IsWithin found → AllByRecursion IsWithin cs → AllByRecursion IsWithin (fold with_least found cs)
  within-fold found [] all more = all
  within-fold found (c ∷ cs) all more = within-fold (with_least found c) cs (within-least found c all more.0) more.1

within-computed : (term : Term) (given : GivenPrice) (discounts : List Discount) → AllByRecursion (IsWithin given.price.amount) (map (computed_with term given) discounts)
within-computed term given [] = tt
within-computed term given (d ∷ rest) = (net_amount-le given.price.amount (tax_of term.tax given.tax) d.percent, within-computed term given rest)

within-by : (term : Option Term) (given : GivenPrice) → AllByRecursion (IsWithin given.price.amount) (computed_by term given)
within-by None given = tt
within-by (Some term) given = within-fold given.price.amount [] (all_computed term given) tt (within-computed term given (discounts_of term.percent given.discounts))

-- of what a term computes
pub computed-within : (term : Option Term) (given : GivenPrice) → All (λ c. c.amount ≤ given.price.amount) (computed_by term given)
computed-within term given = All-from_recursion (λ c. c.amount ≤ given.price.amount) (computed_by term given) (within-by term given)
