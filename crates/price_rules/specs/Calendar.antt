-- The calendar of an offer, in words: its current prices, day by day, as spans.
use Rattle.std.specs.Prelude.{◌≡◌, ℕ, ℤ, pos, ◌+ℤ◌, ◌≤ℤ◌, ◌<ℤ◌, List, [], ◌∷◌, Option, ◌⊎◌, Bool, ◌||◌, int_lt}
use Rattle.price_rules.specs.Price.{IsCurrent}
use Rattle.price_rules.specs.declared.offer.Offer.{Offer}
use Rattle.price_rules.specs.declared.offer.PriceQuery.{PriceQuery}
use Rattle.price_rules.specs.declared.offer.CalendarQuery.{CalendarQuery}
use Rattle.price_rules.specs.declared.calendar.Span.{Span}

-- the last day is before the first, or there are more than 3,660 days
abbrev pub IsBadRange : ℤ → ℤ → Type 0
IsBadRange from to = (to <ℤ from) ⊎ ((from +ℤ pos 3_660) ≤ℤ to)

-- the test of a bad range
abbrev pub is_bad_range : ℤ → ℤ → Bool
is_bad_range from to = int_lt to from || int_lt (from +ℤ pos 3_659) to

-- the prices of a calendar's question that are asked for on one day
abbrev pub on_day : CalendarQuery → ℤ → PriceQuery
on_day q day = record {
  day = day;
  country = q.country;
  currency = q.currency;
  price_type = q.price_type;
  quantity = q.quantity;
}

-- the spans do not begin with one of the same amount
abbrev pub Differs : Span → List Span → Type 0
Differs s [] = Unit {0}
Differs s (t ∷ rest) = s.amount ≡ t.amount → ⊥

-- the spans cover, in order, the days from `first` to the one before `end`: each has the amount of
-- all its days, and neighbours differ
abbrev pub Covers : (ℤ → Option ℕ → Type 0) → ℤ → ℤ → List Span → Type 0
Covers HasAmount first end [] = first ≡ end
Covers HasAmount first end (s ∷ rest) =
    (s.first ≡ first) × (s.first ≤ℤ s.last)
    × ((day : ℤ) → s.first ≤ℤ day → day ≤ℤ s.last → HasAmount day s.amount)
    × Differs s rest
    × Covers HasAmount (s.last +ℤ pos 1) end rest

-- the calendar of the offer for the question: spans that cover the range in order, each with the
-- current price of all its days, neighbours of different amounts
abbrev pub IsCalendar : Offer → CalendarQuery → List Span → Type 0
IsCalendar offer q spans =
    Covers (λ day. IsCurrent offer (on_day q day)) q.from (q.to +ℤ pos 1) spans
