-- Which offer the shop chooses, in words.
use Rattle.std.specs.Prelude.{◌≡◌, ℕ, ◌+◌, ◌<◌, ◌≤◌, List, Contains, Option, Some, None, slice_get}
use Rattle.std.specs.Ordering.{nat_cmp}
use Rattle.std.specs.Cmp.Lexicographic.{slice_cmp}
use Rattle.std.specs.declared.cmp.Ordering.TheVariants.{Less}
use Rattle.price_rules.specs.Order.{ByThen, IsLess}
use Rattle.price_rules.specs.Price.{IsCurrent}
use Rattle.price_rules.specs.declared.offer.Offer.{Offer}
use Rattle.price_rules.specs.declared.offer.PriceQuery.{PriceQuery}
use Rattle.price_rules.specs.declared.precedence.Rule.{Rule}
use Rattle.price_rules.specs.declared.choice.Choice.{Choice}

-- a rule without a series is for all of them
abbrev pub IsSeries : Option (List ℕ) → List ℕ → Type 0
IsSeries None name = Unit {0}
IsSeries (Some wanted) name = wanted ≡ name

-- the rule is for the offer's series and has its availability code
abbrev pub Admits : Rule → Offer → Type 0
Admits rule offer = IsSeries rule.series offer.series × Contains rule.codes offer.availability

-- the amount is not above the greatest one, if there is one
abbrev pub IsWithin : Option ℕ → ℕ → Type 0
IsWithin None amount = Unit {0}
IsWithin (Some most) amount = amount ≤ most

-- the rule takes the offer, whose current price is this amount
abbrev pub Fits : Rule → Offer → PriceQuery → ℕ → Type 0
Fits rule offer q amount =
    Admits rule offer × IsCurrent offer q (Some amount) × IsWithin rule.max amount

-- a pair of a rule and an offer: the choice that it makes, and the offer
abbrev pub Pair : Type 0
Pair = Choice × Offer

-- the pair is one of this rule, which is at that number
abbrev pub IsRuleCandidate : Rule → ℕ → List Offer → PriceQuery → Pair → Type 0
IsRuleCandidate rule number offers q c =
    (c.0.rule ≡ number) × (slice_get offers c.0.offer_index ≡ Some c.1) × Fits rule c.1 q c.0.amount

-- the pair is one of some rule of the table; rules count from 1
abbrev pub IsCandidate : List Rule → List Offer → PriceQuery → Pair → Type 0
IsCandidate rules offers q c =
    (rule : Rule) × (k : ℕ) × (slice_get rules k ≡ Some rule)
    × IsRuleCandidate rule (k + 1) offers q c

-- a text comes before another in the order of bytes
abbrev pub IsTextLess : List ℕ → List ℕ → Type 0
IsTextLess a b = slice_cmp nat_cmp a b ≡ Less

-- by reference and place
abbrev pub IsBeforeInSeries : Offer → Offer → Type 0
IsBeforeInSeries = ByThen (λ o. o.reference) IsTextLess (λ o p. o.place < p.place)

-- by series, reference and place
abbrev pub IsBefore : Offer → Offer → Type 0
IsBefore = ByThen (λ o. o.series) IsTextLess IsBeforeInSeries

-- one pair precedes another: by rule, amount, series, reference, place and index
abbrev pub Precedes : Pair → Pair → Type 0
Precedes =
    ByThen (λ c. c.0.rule) IsLess
    (ByThen (λ c. c.0.amount) IsLess
    (ByThen (λ c. c.1.series) IsTextLess
    (ByThen (λ c. c.1.reference) IsTextLess
    (ByThen (λ c. c.1.place) IsLess (λ c d. c.0.offer_index < d.0.offer_index)))))

-- the choice is among the pairs, and no other one among them precedes it; none if there are no
-- pairs
abbrev pub IsLeast : (Pair → Type 0) → Option Choice → Type 0
IsLeast Among None = (c : Pair) → Among c → ⊥
IsLeast Among (Some choice) =
    (offer : Offer) × Among (choice, offer)
    × ((c : Pair) → Among c → Precedes c (choice, offer) → ⊥)

-- the choice is a candidate that no candidate precedes; none if there is no candidate. A
-- candidate (`IsCandidate`) is a rule and an offer that it admits by series and availability, with
-- a current price that is not above the greatest amount of the rule; one precedes another
-- (`Precedes`) by rule, amount, series, reference, place and index
abbrev pub IsChoice : List Rule → List Offer → PriceQuery → Option Choice → Type 0
IsChoice rules offers q choice = IsLeast (IsCandidate rules offers q) choice

-- by amount, series, reference and place
abbrev pub IsCheaper : ℕ × Offer → ℕ × Offer → Type 0
IsCheaper = ByThen (λ c. c.0) IsLess (λ c d. IsBefore c.1 d.1)
