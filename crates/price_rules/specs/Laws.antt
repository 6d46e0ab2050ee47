-- The laws of the definitions: what is computed is what the definitions in words allow, and nothing
-- else.
use Rattle.std.specs.Prelude.{◌≡◌, ◌↔◌, ℕ, ◌≤ℤ◌, ◌≤◌, List, Option, Err}
use Rattle.price_rules.specs.Price.{IsCurrent}
use Rattle.price_rules.specs.Calendar.{IsCalendar}
use Rattle.price_rules.specs.Choice.{IsChoice}
use Rattle.price_rules.specs.Chosen.{choice}
use Rattle.price_rules.specs.Current.{current}
use Rattle.price_rules.specs.RulesFile.{IsBadItem, rules_from}
use Rattle.price_rules.specs.Spans.{calendar_spans}
use Rattle.toml.specs.Data.{Items}
use Rattle.price_rules.specs.declared.offer.Offer.{Offer}
use Rattle.price_rules.specs.declared.offer.PriceQuery.{PriceQuery}
use Rattle.price_rules.specs.declared.offer.CalendarQuery.{CalendarQuery}
use Rattle.price_rules.specs.declared.calendar.Span.{Span}
use Rattle.price_rules.specs.declared.choice.Choice.{Choice}
use Rattle.price_rules.specs.declared.precedence.PrecedenceFault.TheVariants as fault
use Rattle.price_rules.specs.declared.precedence.Rule.{Rule}

-- an amount is the current price exactly where it is what `current` gives
abbrev pub CurrentIsExact : Type 0
CurrentIsExact =
    (offer : Offer) (q : PriceQuery) (amount : Option ℕ)
    → IsCurrent offer q amount ↔ (amount ≡ current offer q)

-- two calendars of the same offer for the same question are equal
abbrev pub CalendarIsUnique : Type 0
CalendarIsUnique =
    (offer : Offer) (q : CalendarQuery) (spans others : List Span)
    → IsCalendar offer q spans → IsCalendar offer q others → spans ≡ others

-- in a range that has a day, spans are the calendar exactly where they are what `calendar_spans`
-- gives
abbrev pub CalendarIsExact : Type 0
CalendarIsExact =
    (offer : Offer) (q : CalendarQuery) (spans : List Span) → q.from ≤ℤ q.to
    → IsCalendar offer q spans ↔ (spans ≡ calendar_spans offer q)

-- an answer is the choice exactly where it is what `choice` gives
abbrev pub ChoiceIsExact : Type 0
ChoiceIsExact =
    (rules : List Rule) (offers : List Offer) (q : PriceQuery) (chosen : Option Choice)
    → IsChoice rules offers q chosen ↔ (chosen ≡ choice rules offers q)

-- reading names a bad rule exactly where it is the first one
abbrev pub BadRuleIsFirst : Type 0
BadRuleIsFirst =
    (items : Items) (number : ℕ)
    → (rules_from 1 items ≡ Err (fault.BadRule number))
    ↔ (IsBadItem items number × ((other : ℕ) → IsBadItem items other → number ≤ other))
