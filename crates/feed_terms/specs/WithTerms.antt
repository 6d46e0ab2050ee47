-- The records of a SupplyDetail with the prices that are computed.
use Rattle.std.specs.Prelude.{◌≡◌, ℕ, List, [], ◌∷◌, ◌++◌, ◌==◌, Bool, not, ◌||◌, Option}
use Rattle.std.specs.Prelude.{◌<◌, ◌≤◌, IfSome, drop, filter, length, map}
use Rattle.std.specs.Prelude.{slice_get, take}
use Rattle.std.specs.List.{flat_map}
use Rattle.onix_records.specs.Price.{minimum_fields}
use Rattle.onix_records.specs.declared.parts.Price.{Price}
use Rattle.feed_terms.specs.Amounts.{two_decimals}
use Rattle.feed_terms.specs.Computed.{computed_by}
use Rattle.feed_terms.specs.Fits.{fitting, is_among}
use Rattle.feed_terms.specs.HeldBack.{is_held, is_held_back, place_text}
use Rattle.feed_terms.specs.declared.computed.ComputedPrice.{ComputedPrice}
use Rattle.feed_terms.specs.declared.price.GivenPrice.{GivenPrice}
use Rattle.feed_terms.specs.declared.price.Kind.{Kind}
use Rattle.feed_terms.specs.declared.term.Term.{Term}
use Rattle.feed_terms.specs.declared.with_terms.Beside.{Beside}

-- the record of a computed price: that of the price that it comes from, but for type, amount and
-- minimum, which is there where it is above 1
abbrev pub computed_record : List (List ℕ) → ComputedPrice → List (List ℕ)
computed_record fields c =
    take 1 fields ++ (c.price_type ∷ two_decimals c.amount
    ∷ (take 6 (drop 3 fields) ++ minimum_fields c.minimum))

-- a computed price, as the desk holds it
abbrev pub price_of_computed : Price → ComputedPrice → Price
price_of_computed price c =
    record price { price_type = c.price_type; amount = c.amount; minimum = c.minimum }

-- whether a price that is computed of another is held back by what is closed, or by a price
abbrev pub held_by : Beside → Price → ComputedPrice → Bool
held_by beside price c =
    is_held beside.closed.now beside.given.now c.price_type price.currency c.minimum price.from

-- whether it is held back by what the SupplyDetail gives
abbrev pub is_held_beside : Beside → GivenPrice → ComputedPrice → Bool
is_held_beside beside g c =
    is_among beside.barred.now (place_text g) || held_by beside g.price c

-- Prices of that supplier, where those that are computed of a price are held back by this test.
module _ (terms : List Term) (supplier : Option (List ℕ))
    (is_held : GivenPrice → ComputedPrice → Bool) where
  -- the prices that are computed of one
  abbrev pub computed_of : GivenPrice → List ComputedPrice
  computed_of g = computed_by (fitting supplier g terms) g

  -- those that are not held back
  abbrev pub left_of : GivenPrice → List ComputedPrice
  left_of g = filter (λ c. not (is_held g c)) (computed_of g)

  -- those that are written: an amount of 0 is none
  abbrev pub written_of : GivenPrice → List ComputedPrice
  written_of g = filter (λ c. not (c.amount == 0)) (left_of g)

  -- the record of a price, and behind it those of the prices that are computed of it
  abbrev pub with_computed : List (List ℕ) → GivenPrice → List (List (List ℕ))
  with_computed fields g = fields ∷ map (computed_record fields) (written_of g)

  -- the records of prices, each with those behind it
  abbrev pub with_all : List (List (List ℕ)) → List GivenPrice → List (List (List ℕ))
  with_all [] prices = []
  with_all (fields ∷ records) [] = fields ∷ records
  with_all (fields ∷ records) (g ∷ prices) = with_computed fields g ++ with_all records prices

  -- prices of the desk with those that are computed
  abbrev pub prices_with : List GivenPrice → List Price
  prices_with given =
      flat_map (λ g. g.price ∷ map (price_of_computed g.price) (written_of g)) given

-- the records of the Prices of a SupplyDetail with the terms
abbrev pub with_terms : List Term → Option (List ℕ) → List Kind → List GivenPrice
    → List (List (List ℕ)) → List (List (List ℕ))
with_terms terms supplier closed given records =
    with_all terms supplier (is_held_back terms supplier given closed) records given

-- records of Prices, as many as there are prices, each with the nine fields that a Price has
pub record HavePrices (records : List (List (List ℕ))) (given : List GivenPrice) : Type 0 where
  pub count : length records ≡ length given
  pub fields : (k : ℕ) → k < length records → IfSome (slice_get records k) (λ r. 9 ≤ length r)
