-- Which price of an offer is the current one, in words.
use Rattle.std.specs.Prelude.{◌≡◌, ℕ, ◌<◌, ◌≤◌, ℤ, ◌≤ℤ◌, ◌<ℤ◌, Option, Some, None}
use Rattle.onix_terms.specs.Territory.{IsIn}
use Rattle.onix_terms.specs.declared.territory.Territory.{Territory}
use Rattle.onix_records.specs.declared.parts.Price.{Price}
use Rattle.price_rules.specs.Order.{ByThen, IsBest, IsGreater}
use Rattle.price_rules.specs.declared.offer.Offer.{Offer}
use Rattle.price_rules.specs.declared.offer.PriceQuery.{PriceQuery}

-- the first day of a price, if it has one, is not after the day
abbrev pub HasBegun : Option ℤ → ℤ → Type 0
HasBegun None day = Unit {0}
HasBegun (Some from) day = from ≤ℤ day

-- the last day of a price, if it has one, is not before the day
abbrev pub HasNotEnded : Option ℤ → ℤ → Type 0
HasNotEnded None day = Unit {0}
HasNotEnded (Some until) day = day ≤ℤ until

-- the price holds for the question, in an offer with this market
pub record Holds (market : Territory) (q : PriceQuery) (p : Price) : Type 0 where
  pub same_type : p.price_type ≡ q.price_type
  pub same_currency : p.currency ≡ q.currency
  pub in_market : IsIn q.country market
  pub in_territory : IsIn q.country p.territory
  pub begun : HasBegun p.from q.day
  pub not_ended : HasNotEnded p.until q.day
  pub enough : p.minimum ≤ q.quantity

-- the first day is later than the second; an empty one is before all days
abbrev pub IsLater : Option ℤ → Option ℤ → Type 0
IsLater None b = ⊥
IsLater (Some a) None = Unit {0}
IsLater (Some a) (Some b) = b <ℤ a

-- the price counts before the other: by the greater minimum, then the later first day, then the
-- lesser amount
abbrev pub Outranks : Price → Price → Type 0
Outranks =
    ByThen (λ p. p.minimum) IsGreater (ByThen (λ p. p.from) IsLater (λ p r. p.amount < r.amount))

-- the current price of the offer: the amount of a price that holds and that no price that holds
-- outranks, none if none holds. A price holds (`Holds`) where its type and currency are those
-- asked for, the country is in the market and in its territory, it has begun and not ended, and its
-- minimum is not above the quantity; it outranks another (`Outranks`) by the greater minimum, then
-- the later first day, then the lesser amount
abbrev pub IsCurrent : Offer → PriceQuery → Option ℕ → Type 0
IsCurrent o q None = IsBest (Holds o.market q) Outranks o.prices None
IsCurrent o q (Some amount) =
    (p : Price) × (p.amount ≡ amount) × IsBest (Holds o.market q) Outranks o.prices (Some p)
