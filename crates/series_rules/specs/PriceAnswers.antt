-- Answers about the offers of an article.
use Rattle.std.specs.Prelude.{ℕ, List, Option, if◌then◌else◌, map, option_map, slice_get}
use Rattle.onix_terms.specs.Options.{◌>>=◌}
use Rattle.price_rules.specs.Calendar.{is_bad_range}
use Rattle.price_rules.specs.Chosen.{choice}
use Rattle.price_rules.specs.Current.{current}
use Rattle.price_rules.specs.Spans.{calendar_spans}
use Rattle.price_rules.specs.declared.choice.BestOffer.{BestOffer}
use Rattle.price_rules.specs.declared.choice.Choice.{Choice}
use Rattle.price_rules.specs.declared.offer.Offer.{Offer}
use Rattle.price_rules.specs.declared.offer.PriceQuery.{PriceQuery}
use Rattle.price_rules.specs.declared.offer.CalendarQuery.{CalendarQuery}
use Rattle.price_rules.specs.declared.precedence.Rule.{Rule}
use Rattle.series_rules.specs.declared.answers.Answer.{Answer}
use Rattle.series_rules.specs.declared.answers.Answer.TheVariants as answer
use Rattle.series_rules.specs.declared.answers.ListedOffer.{ListedOffer}
use Rattle.series_rules.specs.declared.answers.PricedOffer.{PricedOffer}
use Rattle.series_rules.specs.declared.answers.ChosenOffer.{ChosenOffer}
use Rattle.series_rules.specs.declared.answers.OfferCalendar.{OfferCalendar}

-- an offer, as answers name it
abbrev pub listed : Offer → ListedOffer
listed o = record {
  series = o.series;
  reference = o.reference;
  place = o.place;
  availability = o.availability;
}

-- an offer with its current price
abbrev pub priced : PriceQuery → Offer → PricedOffer
priced q o = record { offer = listed o; amount = current o q }

-- each offer with its current price
abbrev pub prices_of : PriceQuery → List Offer → List PricedOffer
prices_of q offers = map (priced q) offers

-- the offer that a choice is of
abbrev pub chosen_offer : List Offer → Choice → Option ChosenOffer
chosen_offer offers c =
    option_map (λ o. record { rule = c.rule; offer = listed o; amount = c.amount })
    (slice_get offers c.offer_index)

-- the offer that the rules choose
abbrev pub chosen_by : List Rule → PriceQuery → List Offer → Option ChosenOffer
chosen_by rules q offers = choice rules offers q >>= chosen_offer offers

-- the best offer, as answers name it
abbrev pub named_best : BestOffer → ChosenOffer
named_best best = record { rule = best.rule; offer = listed best.offer; amount = best.amount }

-- an offer with its calendar
abbrev pub dated : CalendarQuery → Offer → OfferCalendar
dated q o = record { offer = listed o; spans = calendar_spans o q }

-- each offer with its calendar
abbrev pub calendars_of : CalendarQuery → List Offer → List OfferCalendar
calendars_of q offers = map (dated q) offers

-- the answer to a question about a calendar: a bad range is refused, whether or not there are
-- offers
abbrev pub calendar_answer : List ℕ → CalendarQuery → List Offer → Answer
calendar_answer isbn q offers =
    if is_bad_range q.from q.to then answer.BadRange
    else answer.Calendar isbn (calendars_of q offers)
