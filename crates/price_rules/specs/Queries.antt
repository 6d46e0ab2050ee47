-- What the texts of a question about prices ask.
use Rattle.std.specs.Prelude.{ℕ, ℤ, List, Option, Some, None}
use Rattle.onix_terms.specs.Code.{code2_of, country_of, currency_of}
use Rattle.onix_terms.specs.Day.{day_of}
use Rattle.onix_terms.specs.Options.{◌>>=◌}
use Rattle.onix_terms.specs.Quantity.{quantity_of}
use Rattle.price_rules.specs.declared.offer.PriceQuery.{PriceQuery}
use Rattle.price_rules.specs.declared.offer.CalendarQuery.{CalendarQuery}

-- for how many copies prices are asked: for one if there is no text
abbrev pub copies_asked : Option (List ℕ) → Option ℕ
copies_asked None = Some 1
copies_asked (Some quantity) = quantity_of quantity

-- which prices are asked for: on a day, in a country and a currency, of a type, and perhaps for a
-- quantity
unfoldable pub price_query : List ℕ → List ℕ → List ℕ → List ℕ → Option (List ℕ) → Option PriceQuery
price_query day country currency price_type quantity = do
  d ← day_of day
  c ← country_of country
  u ← currency_of currency
  t ← code2_of price_type
  n ← copies_asked quantity
  Some (record { day = d; country = c; currency = u; price_type = t; quantity = n })

-- the calendar of these prices from their day to a last one
abbrev pub until : PriceQuery → ℤ → CalendarQuery
until q last = record {
  from = q.day;
  to = last;
  country = q.country;
  currency = q.currency;
  price_type = q.price_type;
  quantity = q.quantity;
}

-- a calendar from one day to another: of prices for sale in a country, in a currency, of a type,
-- for a quantity
abbrev pub calendar_query : ℤ → ℤ → List ℕ → List ℕ → List ℕ → ℕ → CalendarQuery
calendar_query from to country currency price_type quantity = record {
  from = from;
  to = to;
  country = country;
  currency = currency;
  price_type = price_type;
  quantity = quantity;
}
