-- Answers about the offers of an article, in words.
use Rattle.std.specs.Prelude.{◌≡◌, ℕ, List, Option, Some, None, slice_get}
use Rattle.std.specs.List.{AllZip}
use Rattle.price_rules.specs.Calendar.{IsBadRange, IsCalendar}
use Rattle.price_rules.specs.Choice.{IsChoice}
use Rattle.price_rules.specs.Price.{IsCurrent}
use Rattle.price_rules.specs.declared.choice.Choice.{Choice}
use Rattle.price_rules.specs.declared.offer.Offer.{Offer}
use Rattle.price_rules.specs.declared.offer.PriceQuery.{PriceQuery}
use Rattle.price_rules.specs.declared.offer.CalendarQuery.{CalendarQuery}
use Rattle.price_rules.specs.declared.precedence.Rule.{Rule}
use Rattle.series_rules.specs.PriceAnswers.{calendar_answer, chosen_by, listed, prices_of}
use Rattle.series_rules.specs.declared.answers.Answer.{Answer}
use Rattle.series_rules.specs.declared.answers.Answer.TheVariants as answer
use Rattle.series_rules.specs.declared.answers.ChosenOffer.{ChosenOffer}

-- an answer about prices has the offers in their order, each with its current price
abbrev pub PricesAreTrue : Type 0
PricesAreTrue =
    (q : PriceQuery) (offers : List Offer)
    → AllZip (λ o p. (p.offer ≡ listed o) × IsCurrent o q p.amount) offers (prices_of q offers)

-- the offer that is chosen, with its rule and price, and none where no rule takes an offer
abbrev pub IsChosenOffer : List Rule → PriceQuery → List Offer → Option ChosenOffer → Type 0
IsChosenOffer rules q offers None = IsChoice rules offers q None
IsChosenOffer rules q offers (Some chosen) =
    (c : Choice) × (o : Offer) × IsChoice rules offers q (Some c)
    × (slice_get offers c.offer_index ≡ Some o)
    × (chosen ≡ record { rule = c.rule; offer = listed o; amount = c.amount })

-- an answer about a choice has the offer that is chosen
abbrev pub ChoiceIsTrue : Type 0
ChoiceIsTrue =
    (rules : List Rule) (q : PriceQuery) (offers : List Offer)
    → IsChosenOffer rules q offers (chosen_by rules q offers)

-- a bad range is refused, and no other; else the answer has the offers in their order, each with
-- its calendar
abbrev pub IsCalendarAnswer : List ℕ → CalendarQuery → List Offer → Answer → Type 0
IsCalendarAnswer isbn q offers answer.BadRange = IsBadRange q.from q.to
IsCalendarAnswer isbn q offers (answer.Calendar article dated) =
    (IsBadRange q.from q.to → ⊥)
    × (article ≡ isbn)
    × AllZip (λ o d. (d.offer ≡ listed o) × IsCalendar o q d.spans) offers dated
IsCalendarAnswer isbn q offers _ = ⊥

-- an answer about a calendar has the calendar of each offer, in their order, or refuses the range
-- where it is bad
abbrev pub CalendarsAreTrue : Type 0
CalendarsAreTrue =
    (isbn : List ℕ) (q : CalendarQuery) (offers : List Offer)
    → IsCalendarAnswer isbn q offers (calendar_answer isbn q offers)
