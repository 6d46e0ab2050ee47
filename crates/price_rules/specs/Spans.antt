-- The calendar of an offer, computed: a span for each day, equal neighbours joined.
use Rattle.std.specs.Prelude.{ℕ, zero, suc, nat_eq, ℤ, pos, negsuc, ◌+ℤ◌, ◌-ℤ◌, List, [], ◌∷◌, Option, if◌then◌else◌}
use Rattle.std.specs.Option.{option_eq}
use Rattle.price_rules.specs.Calendar.{on_day}
use Rattle.price_rules.specs.Current.{current}
use Rattle.price_rules.specs.declared.offer.Offer.{Offer}
use Rattle.price_rules.specs.declared.offer.CalendarQuery.{CalendarQuery}
use Rattle.price_rules.specs.declared.calendar.Span.{Span}

-- a span before others, one with the first of them where they have the same amount
abbrev pub joined : Span → List Span → List Span
joined s [] = s ∷ []
joined s (t ∷ rest) =
    if option_eq nat_eq s.amount t.amount then record t { first = s.first } ∷ rest else s ∷ t ∷ rest

-- the span of one day
abbrev pub day_span : ℤ → Option ℕ → Span
day_span day amount = record { first = day; last = day; amount = amount }

-- the spans of so many days from a first one on
abbrev pub spans_from : (ℤ → Option ℕ) → ℤ → ℕ → List Span
spans_from amount_on first zero = []
spans_from amount_on first (suc n) =
    joined (day_span first (amount_on first)) (spans_from amount_on (first +ℤ pos 1) n)

-- a number of days, none where it is below zero
abbrev pub day_count : ℤ → ℕ
day_count (pos n) = n
day_count (negsuc n) = 0

-- the calendar of the offer for the question
unfoldable pub calendar_spans : Offer → CalendarQuery → List Span
calendar_spans offer q =
    spans_from (λ day. current offer (on_day q day)) q.from (day_count ((q.to +ℤ pos 1) -ℤ q.from))
