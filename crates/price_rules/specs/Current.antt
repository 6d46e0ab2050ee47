-- The current price of an offer, computed.
use Rattle.std.specs.Prelude.{ℕ, ℤ, List, Option, Some, None, Bool, true, false, not, ◌&&◌, ◌||◌, ◌==◌, nat_lt, nat_le, int_lt, option_map}
use Rattle.std.specs.List.{list_any}
use Rattle.std.specs.Option.{option_eq}
use Rattle.std.specs.Ordering.{int_eq}
use Rattle.std.specs.Str.{bytes_eq}
use Rattle.onix_terms.specs.declared.territory.Territory.{Territory}
use Rattle.onix_records.specs.declared.parts.Price.{Price}
use Rattle.price_rules.specs.Order.{best_of, by_then}
use Rattle.price_rules.specs.declared.offer.Offer.{Offer}
use Rattle.price_rules.specs.declared.offer.PriceQuery.{PriceQuery}

-- whether the code is in the list
abbrev pub has_code : List ℕ → List (List ℕ) → Bool
has_code code codes = list_any (bytes_eq code) codes

-- whether the country lies in the territory
abbrev pub is_in : List ℕ → Territory → Bool
is_in country t = not (has_code country t.excluded) && (t.world || has_code country t.included)

-- whether a price with this first day, if it has one, has begun
abbrev pub has_begun : Option ℤ → ℤ → Bool
has_begun None day = true
has_begun (Some from) day = not (int_lt day from)

-- whether a price with this last day, if it has one, has not ended
abbrev pub has_not_ended : Option ℤ → ℤ → Bool
has_not_ended None day = true
has_not_ended (Some until) day = not (int_lt until day)

-- whether the price holds for the question, in an offer with this market
abbrev pub holds : Territory → PriceQuery → Price → Bool
holds market q p =
    (bytes_eq p.price_type q.price_type && bytes_eq p.currency q.currency)
    && (is_in q.country market && is_in q.country p.territory)
    && (has_begun p.from q.day && has_not_ended p.until q.day && nat_le p.minimum q.quantity)

-- whether the first day is later than the second
abbrev pub is_later : Option ℤ → Option ℤ → Bool
is_later None b = false
is_later (Some a) None = true
is_later (Some a) (Some b) = int_lt b a

-- whether the price counts before the other
abbrev pub outranks : Price → Price → Bool
outranks =
    by_then (λ p. p.minimum) (λ a b. nat_lt b a) ◌==◌
    (by_then (λ p. p.from) is_later (option_eq int_eq) (λ p r. nat_lt p.amount r.amount))

-- the current price of the offer
unfoldable pub current : Offer → PriceQuery → Option ℕ
current o q = option_map (λ p. p.amount) (best_of (holds o.market q) outranks o.prices)
