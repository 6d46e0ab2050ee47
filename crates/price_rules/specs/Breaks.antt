-- The days on which the current prices of an offer may change.
use Rattle.std.specs.Prelude.{◌≡◌, ◌↔◌, ℤ, pos, ◌+ℤ◌, ◌≤ℤ◌, ◌<ℤ◌, List, [], ◌∷◌, ◌++◌, Option, Some, None, ◌⊎◌, ◌&&◌, int_lt, not, Contains, if◌then◌else◌}
use Rattle.std.specs.List.{AllPairs}
use Rattle.onix_records.specs.declared.parts.Price.{Price}
use Rattle.price_rules.specs.Calendar.{on_day}
use Rattle.price_rules.specs.Current.{current}
use Rattle.price_rules.specs.declared.offer.Offer.{Offer}
use Rattle.price_rules.specs.declared.offer.CalendarQuery.{CalendarQuery}

-- a price begins on the day, or ended on the day before
abbrev pub Breaks : List Price → ℤ → Type 0
Breaks prices day =
    (p : Price) × Contains prices p
    × ((p.from ≡ Some day) ⊎ ((until : ℤ) × (p.until ≡ Some until) × (day ≡ until +ℤ pos 1)))

-- the break days of a range, in order without repeats: its first day, and each later one on which a
-- price begins or the day before which one ended
pub record IsBreakDays (offer : Offer) (from to : ℤ) (days : List ℤ) : Type 0 where
  pub ascending : AllPairs (λ a b. a <ℤ b) days
  pub each : (day : ℤ)
      → Contains days day ↔ ((day ≡ from) ⊎ ((from <ℤ day) × (day ≤ℤ to) × Breaks offer.prices day))

-- from each break day up to the day before the next one, or to the end of the range, no current
-- price changes
abbrev pub IsSteady : Offer → ℤ → List ℤ → Type 0
IsSteady offer to days =
    (first day : ℤ) → Contains days first → first ≤ℤ day → day ≤ℤ to
    → ((other : ℤ) → Contains days other → first <ℤ other → day <ℤ other)
    → (q : CalendarQuery) → current offer (on_day q day) ≡ current offer (on_day q first)

-- the day, if it lies in the range after its first day
abbrev pub within : ℤ → ℤ → ℤ → List ℤ
within from to day = if int_lt from day && not (int_lt to day) then day ∷ [] else []

-- the first day of a price, if it lies there
abbrev pub begins_within : ℤ → ℤ → Option ℤ → List ℤ
begins_within from to None = []
begins_within from to (Some day) = within from to day

-- the day after the last day of a price, if it lies there
abbrev pub ends_within : ℤ → ℤ → Option ℤ → List ℤ
ends_within from to None = []
ends_within from to (Some day) = within from to (day +ℤ pos 1)

-- the break days of one price
abbrev pub breaks_of : ℤ → ℤ → Price → List ℤ
breaks_of from to p = begins_within from to p.from ++ ends_within from to p.until
