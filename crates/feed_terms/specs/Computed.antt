-- The prices that a term computes of a price.
use Rattle.std.specs.Prelude.{◌≡◌, ℕ, List, [], ◌∷◌, ◌==◌, Option, Some, None, fold, map, max, min}
use Rattle.std.specs.Prelude.{if◌then◌else◌, position}
use Rattle.std.specs.BTreeMap.{BTreeMap, get}
use Rattle.std.specs.Ordering.{nat_cmp}
use Rattle.std.specs.Option.{unwrap_or}
use Rattle.feed_terms.specs.Amounts.{net_amount}
use Rattle.feed_terms.specs.declared.computed.ComputedPrice.{ComputedPrice}
use Rattle.feed_terms.specs.declared.price.Discount.{Discount}
use Rattle.feed_terms.specs.declared.price.GivenPrice.{GivenPrice}
use Rattle.feed_terms.specs.declared.term.Rate.{Rate}
use Rattle.feed_terms.specs.declared.term.Rate.TheVariants.{Feed, Fixed}
use Rattle.feed_terms.specs.declared.term.Term.{Term}

-- the tax that is taken out: that of the term, or that of the price
abbrev pub tax_of : Option Rate → Option ℕ → ℕ
tax_of None said = 0
tax_of (Some (Fixed percent)) said = percent
tax_of (Some Feed) said = unwrap_or said 0

-- the discounts and from how many copies on each holds: that of the term, or those that the price
-- says
abbrev pub discounts_of : Rate → List Discount → List Discount
discounts_of (Fixed percent) said = record { percent = percent; quantity = 1 } ∷ []
discounts_of Feed said = said

module _ (term : Term) (given : GivenPrice) where
  -- the price that is computed with a discount, from the greater of both numbers of copies on
  abbrev pub computed_with : Discount → ComputedPrice
  computed_with discount = record {
    price_type = term.net;
    amount = net_amount given.price.amount (tax_of term.tax given.tax) discount.percent;
    minimum = max given.price.minimum discount.quantity;
  }

  -- one for each discount, in their order
  abbrev pub all_computed : List ComputedPrice
  all_computed = map computed_with (discounts_of term.percent given.discounts)

-- one more price: where one has its minimum, the lesser amount of both stands there
abbrev pub with_least : List ComputedPrice → ComputedPrice → List ComputedPrice
with_least [] price = price ∷ []
with_least (first ∷ rest) price =
    if first.minimum == price.minimum
    then record first { amount = min first.amount price.amount } ∷ rest
    else first ∷ with_least rest price

-- of the prices with the same minimum one is left, with the least amount, where the first of them
-- stood
abbrev pub least_of_each : List ComputedPrice → List ComputedPrice
least_of_each prices = fold with_least [] prices

-- the prices that are computed of a price by the term that fits it, if there is one
abbrev pub computed_by : Option Term → GivenPrice → List ComputedPrice
computed_by None given = []
computed_by (Some term) given = least_of_each (all_computed term given)

-- places are the indexes of prices by the numbers of copies from which on they are
abbrev pub HasPlaces : List ComputedPrice → BTreeMap ℕ ℕ → Type 0
HasPlaces prices places =
    (minimum : ℕ) → get nat_cmp places minimum ≡ position (λ p. p.minimum == minimum) prices
