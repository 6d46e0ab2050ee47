-- What the path and the query of a GET ask.
use Rattle.std.specs.Prelude.{ℕ, List, Result, Ok, codes}
use Rattle.onix_terms.specs.Code.{isbn13_of}
use Rattle.onix_terms.specs.Day.{day_of}
use Rattle.onix_terms.specs.SeriesName.{series_name_of}
use Rattle.price_rules.specs.Queries.{price_query, until}
use Rattle.price_rules.specs.declared.offer.PriceQuery.{PriceQuery}
use Rattle.price_rules.specs.declared.offer.CalendarQuery.{CalendarQuery}
use Rattle.http_requests.specs.declared.refusal.Refusal.{Refusal}
use Rattle.http_requests.specs.declared.refusal.Refusal.TheVariants.{BadQuery, UnknownSeries}
use Rattle.desk_http.specs.Query.{needed_value, pairs_of, value_of}
use Rattle.http_requests.specs.Steps.{◌>>=◌, or_refuse}

-- the prices that the pairs of a query ask for, on the day under this key
unfoldable pub prices_on : List ℕ → List (List ℕ × List ℕ) → Result PriceQuery Refusal
prices_on key pairs = do
  day ← needed_value key pairs
  country ← needed_value (codes "country") pairs
  currency ← needed_value (codes "currency") pairs
  price_type ← needed_value (codes "type") pairs
  quantity ← value_of (codes "quantity") pairs
  or_refuse BadQuery (price_query day country currency price_type quantity)

-- an article, and which of its prices
unfoldable pub prices_asked : List ℕ → List ℕ → Result (List ℕ × PriceQuery) Refusal
prices_asked part query = do
  isbn ← or_refuse BadQuery (isbn13_of part)
  prices ← prices_on (codes "day") (pairs_of query)
  Ok (isbn, prices)

-- an article, and which calendar of it
unfoldable pub calendar_asked : List ℕ → List ℕ → Result (List ℕ × CalendarQuery) Refusal
calendar_asked part query = do
  isbn ← or_refuse BadQuery (isbn13_of part)
  first ← prices_on (codes "from") (pairs_of query)
  to ← needed_value (codes "to") (pairs_of query)
  last ← or_refuse BadQuery (day_of to)
  Ok (isbn, until first last)

-- a series
abbrev pub series_asked : List ℕ → Result (List ℕ) Refusal
series_asked part = or_refuse UnknownSeries (series_name_of part)
