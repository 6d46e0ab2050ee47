-- The computed calendar covers its days, and nothing else does.
use Rattle.std.proofs.Common.{◌≡◌, ◌↔◌, ℕ, zero, suc, nat_eq, ℤ, pos, negsuc, ◌+ℤ◌, ◌-ℤ◌, ◌≤ℤ◌, List, [], ◌∷◌, Option, Bool, true, false, sym, refl, subst, arith}
use Rattle.std.specs.Bool.{Decides}
use Rattle.std.specs.Option.{option_eq}
use Rattle.std.proofs.lemmas.Bool.Decides.{Decides-eqb}
use Rattle.std.proofs.lemmas.Int.{by_lt_z, ints}
use Rattle.onix_terms.specs.Plain.{option-decides}
use Rattle.price_rules.specs.Calendar.{Covers, Differs, IsCalendar, on_day}
use Rattle.price_rules.specs.Current.{current}
use Rattle.price_rules.specs.Price.{IsCurrent}
use Rattle.price_rules.specs.Spans.{calendar_spans, day_count, day_span, joined, spans_from}
use Rattle.price_rules.specs.declared.offer.Offer.{Offer}
use Rattle.price_rules.specs.declared.offer.CalendarQuery.{CalendarQuery}
use Rattle.price_rules.specs.declared.calendar.Span.{Span}
use Rattle.price_rules.proofs.Covers.{covers_unique}
use Rattle.price_rules.proofs.CurrentPrice.{current_is, current_unique}

differs_earlier : (t : Span) (rest : List Span) (first : ℤ) → Differs t rest → Differs (record t { first = first }) rest
differs_earlier t [] first h = h
differs_earlier t (u ∷ rest) first h = h

-- a day before spans, where the test of equal amounts has an answer
covers_joined_at : (C : ℤ → Option ℕ → Type 0) (day end : ℤ) (amount : Option ℕ) (t : Span) (rest : List Span) (same : Bool)
    → Decides same (amount ≡ t.amount) → option_eq nat_eq amount t.amount ≡ same
    → C day amount → Covers C (day +ℤ pos 1) end (t ∷ rest) → Covers C day end (joined (day_span day amount) (t ∷ rest))
covers_joined_at C day end amount t rest true d e here h =
    rw e (
      refl,
      omega (arith, ints),
      (λ other up down. by_lt_z day other
          (λ lt. h.2 other (omega (arith, ints)) down)
          (λ ge. let s : day ≡ other = omega (arith, ints) in subst (λ z. C z t.amount) s (subst (C day) (d.0 refl) here))),
      differs_earlier t rest day h.3,
      h.4,
    )
covers_joined_at C day end amount t rest false d e here h =
    rw e (
      refl,
      omega (arith, ints),
      (λ other up down. let s : day ≡ other = omega (arith, ints) in subst (λ z. C z amount) s here),
      (λ k. let wrong = d.1 k in cc),
      h,
    )

covers_joined_day : (C : ℤ → Option ℕ → Type 0) (day end : ℤ) (amount : Option ℕ) (rest : List Span)
    → C day amount → Covers C (day +ℤ pos 1) end rest → Covers C day end (joined (day_span day amount) rest)
covers_joined_day C day end amount [] here h =
    (refl, omega (arith, ints), (λ other up down. let s : day ≡ other = omega (arith, ints) in subst (λ z. C z amount) s here), tt, h)
covers_joined_day C day end amount (t ∷ rest) here h =
    covers_joined_at C day end amount t rest (option_eq nat_eq amount t.amount) (option-decides Decides-eqb amount t.amount) refl here h

spans_cover : (C : ℤ → Option ℕ → Type 0) (amount_on : ℤ → Option ℕ) → ((day : ℤ) → C day (amount_on day))
    → (n : ℕ) (first end : ℤ) → first +ℤ pos n ≡ end → Covers C first end (spans_from amount_on first n)
spans_cover C amount_on each zero first end e = omega (arith, ints)
spans_cover C amount_on each (suc n) first end e =
    covers_joined_day C first end (amount_on first) (spans_from amount_on (first +ℤ pos 1) n) (each first)
    (spans_cover C amount_on each n (first +ℤ pos 1) end (omega (arith, ints)))

count_reaches : (from to z : ℤ) → z ≡ (to +ℤ pos 1) -ℤ from → from ≤ℤ to → from +ℤ pos (day_count z) ≡ to +ℤ pos 1
count_reaches from to (pos n) e le = omega (arith, ints)
count_reaches from to (negsuc n) e le = absurd (omega (arith, ints))

-- what is computed is the calendar
calendar_is : (o : Offer) (q : CalendarQuery) → q.from ≤ℤ q.to → IsCalendar o q (calendar_spans o q)
unfolding calendar_spans
calendar_is o q le =
    spans_cover (λ day. IsCurrent o (on_day q day)) (λ day. current o (on_day q day)) (λ day. current_is o (on_day q day))
    (day_count ((q.to +ℤ pos 1) -ℤ q.from)) q.from (q.to +ℤ pos 1) (count_reaches q.from q.to ((q.to +ℤ pos 1) -ℤ q.from) refl le)

pub calendar_unique : (o : Offer) (q : CalendarQuery) (spans others : List Span) → IsCalendar o q spans → IsCalendar o q others → spans ≡ others
calendar_unique o q spans others h k =
    covers_unique (λ day. IsCurrent o (on_day q day)) (λ day. current_unique o (on_day q day)) q.from (q.to +ℤ pos 1) spans others h k

-- and nothing else is
pub calendar_exact : (o : Offer) (q : CalendarQuery) (spans : List Span) → q.from ≤ℤ q.to → IsCalendar o q spans ↔ (spans ≡ calendar_spans o q)
calendar_exact o q spans le = (
  λ h. calendar_unique o q spans (calendar_spans o q) h (calendar_is o q le),
  λ e. subst (IsCalendar o q) (sym e) (calendar_is o q le),
)
