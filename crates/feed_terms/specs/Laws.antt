-- The laws of the definitions.
use Rattle.std.specs.Prelude.{◌≡◌, ℕ, ◌≤◌, ◌<◌, ◌+◌, ◌*◌, ◌-◌, List, [], ◌∷◌}
use Rattle.std.specs.Prelude.{◌%◌, Bool, Option, Some, Ok, drop, length, map}
use Rattle.std.specs.List.{All, AllByRecursion}
use Rattle.onix_terms.specs.Code.{code2_of}
use Rattle.onix_records.specs.Price.{price_of}
use Rattle.onix_records.specs.declared.parts.Price.{Price}
use Rattle.onix_records.specs.declared.row.Form.TheVariants.{Two}
use Rattle.onix_records.specs.declared.row.Opening.{Opening}
use Rattle.price_rules.specs.Price.{IsCurrent}
use Rattle.price_rules.specs.declared.offer.Offer.{Offer}
use Rattle.price_rules.specs.declared.offer.PriceQuery.{PriceQuery}
use Rattle.feed_terms.specs.Amounts.{rounded}
use Rattle.feed_terms.specs.HeldBack.{is_held_back}
use Rattle.feed_terms.specs.TermsFile.{table_of}
use Rattle.feed_terms.specs.WithTerms.{computed_record, price_of_computed, prices_with}
use Rattle.feed_terms.specs.WithTerms.{with_terms, written_of}
use Rattle.feed_terms.specs.declared.computed.ComputedPrice.{ComputedPrice}
use Rattle.feed_terms.specs.declared.price.GivenPrice.{GivenPrice}
use Rattle.feed_terms.specs.declared.price.Kind.{Kind}
use Rattle.feed_terms.specs.declared.term.Term.{Term}

-- An amount in hundredths of the currency is the exact one, rounded, halves up: ten times it, times
-- `10000 + tax`, is above `amount · (10000 - discount)` by half a hundredth at most, or below it by
-- less.
abbrev pub AmountIsRounded : Type 0
AmountIsRounded =
    (amount tax discount : ℕ)
    → (10 * rounded amount tax discount * (10_000 + tax)
    ≤ amount * (10_000 - discount) + 5 * (10_000 + tax))
    × (amount * (10_000 - discount) + 5 * (10_000 + tax)
    < 10 * (rounded amount tax discount + 1) * (10_000 + tax))

-- a computed price is never more than the price that it comes from
abbrev pub ComputedIsNoMore : Type 0
ComputedIsNoMore =
    (terms : List Term) (supplier : Option (List ℕ)) (held : GivenPrice → ComputedPrice → Bool)
    (g : GivenPrice) → All (λ c. c.amount ≤ g.price.amount) (written_of terms supplier held g)

-- an empty table computes nothing
abbrev pub NothingByNoTerms : Type 0
NothingByNoTerms =
    (supplier : Option (List ℕ)) (closed : List Kind) (given : List GivenPrice)
    (records : List (List (List ℕ))) → with_terms [] supplier closed given records ≡ records

-- what is left where behind each record so many are taken away
abbrev pub less_behind : List ℕ → List (List (List ℕ)) → List (List (List ℕ))
less_behind counts [] = []
less_behind [] (record_ ∷ records) = record_ ∷ records
less_behind (count ∷ counts) (record_ ∷ records) = record_ ∷ less_behind counts (drop count records)

-- the records with the terms, less the computed ones behind each, are those without
abbrev pub LessComputedIsWithout : Type 0
LessComputedIsWithout =
    (terms : List Term) (supplier : Option (List ℕ)) (closed : List Kind) (given : List GivenPrice)
    (records : List (List (List ℕ)))
    → less_behind
    (map
    (λ g. length (written_of terms supplier (is_held_back terms supplier given closed) g))
    given)
    (with_terms terms supplier closed given records) ≡ records

-- wherever a price of the feed is the current one of an offer, it is that with the terms too
abbrev pub GivenPriceStands : Type 0
GivenPriceStands =
    (terms : List Term) (supplier : Option (List ℕ)) (closed : List Kind) (given : List GivenPrice)
    (offer : Offer) (q : PriceQuery) (amount : ℕ) → offer.prices ≡ map (λ g. g.price) given
    → IsCurrent offer q (Some amount)
    → IsCurrent (record offer {
      prices = prices_with terms supplier (is_held_back terms supplier given closed) given;
    }) q (Some amount)

-- ---- the records of computed prices are read

-- a quantity of the desk
abbrev pub IsOfRange : ℕ → Type 0
IsOfRange n = (0 < n) × (n < 1_000_000)

-- a price of the feed that says what the desk can hold
pub record IsInRange (given : GivenPrice) : Type 0 where
  pub below : given.price.amount < 1_000_000_000_000
  pub minimum : IsOfRange given.price.minimum
  pub discounts : AllByRecursion (λ d. IsOfRange d.quantity) given.discounts

-- the types of the net prices of terms are codes
abbrev pub HasCodes : List Term → Type 0
HasCodes terms = AllByRecursion (λ t. code2_of t.net ≡ Some t.net) terms

-- a computed price that a record can have
pub record IsWritable (c : ComputedPrice) : Type 0 where
  pub code : code2_of c.price_type ≡ Some c.price_type
  pub below : c.amount < 1_000_000_000_000
  pub whole : c.amount % 10 ≡ 0
  pub some : 0 < c.minimum
  pub small : c.minimum < 1_000_000

-- what a table computes of a price of the feed is such
abbrev pub WrittenAreWritable : Type 0
WrittenAreWritable =
    (terms : List Term) (supplier : Option (List ℕ)) (held : GivenPrice → ComputedPrice → Bool)
    (g : GivenPrice) → HasCodes terms → IsInRange g
    → AllByRecursion IsWritable (written_of terms supplier held g)

-- the terms of a table have codes
abbrev pub TablesHaveCodes : Type 0
TablesHaveCodes =
    (text : List ℕ) (terms : List Term) → table_of text ≡ Ok terms → HasCodes terms

-- in form 2 the record of a computed price says that price
abbrev pub ComputedReadsBack : Type 0
ComputedReadsBack =
    (o : Opening) (name : List ℕ) (fields : List (List ℕ)) (p : Price) (c : ComputedPrice)
    → o.form ≡ Two → price_of o fields ≡ Some p → IsWritable c
    → price_of o (drop 1 (computed_record (name ∷ fields) c)) ≡ Some (price_of_computed p c)
