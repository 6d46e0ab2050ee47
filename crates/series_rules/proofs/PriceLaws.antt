-- The proofs of the laws of answers about prices.
use Rattle.std.proofs.Common.{◌≡◌, ◌≤ℤ◌, ◌+ℤ◌, ℤ, pos, Bool, true, false, List, [], ◌∷◌, Option, Some, None, refl, sym, subst, arith, cond, inl}
use Rattle.std.specs.Prelude.{int_lt, option_map}
use Rattle.std.specs.Bool.{Decides}
use Rattle.std.specs.List.{AllZip}
use Rattle.std.proofs.lemmas.Bool.Decides.{Decides-or}
use Rattle.std.proofs.lemmas.Int.{ints}
use Rattle.onix_terms.specs.Options.{◌>>=◌}
use Rattle.price_rules.specs.Calendar.{IsBadRange, IsCalendar, is_bad_range}
use Rattle.price_rules.specs.Choice.{IsChoice}
use Rattle.price_rules.specs.Chosen.{choice}
use Rattle.price_rules.specs.Current.{current}
use Rattle.price_rules.specs.Laws.{CalendarIsExact, ChoiceIsExact, CurrentIsExact}
use Rattle.price_rules.specs.Spans.{calendar_spans}
use Rattle.price_rules.specs.declared.choice.Choice.{Choice}
use Rattle.price_rules.specs.declared.offer.Offer.{Offer}
use Rattle.price_rules.specs.declared.offer.PriceQuery.{PriceQuery}
use Rattle.price_rules.specs.declared.offer.CalendarQuery.{CalendarQuery}
use Rattle.price_rules.specs.declared.precedence.Rule.{Rule}
use Rattle.series_rules.specs.PriceAnswers.{calendars_of, chosen_offer, listed}
use Rattle.series_rules.specs.PriceLaws.{PricesAreTrue, IsChosenOffer, ChoiceIsTrue, IsCalendarAnswer, CalendarsAreTrue}
use Rattle.series_rules.specs.declared.answers.Answer.TheVariants as answer

pub prices_are_true : CurrentIsExact → PricesAreTrue
prices_are_true exact q [] = tt
prices_are_true exact q (o ∷ offers) = ((refl, (exact o q (current o q)).1 refl), prices_are_true exact q offers)

chosen_is_true : (rules : List Rule) (q : PriceQuery) (offers : List Offer) (o : Option Choice) → IsChoice rules offers q o → IsChosenOffer rules q offers (o >>= chosen_offer offers)
chosen_is_true rules q offers None is = is
chosen_is_true rules q offers (Some c) is =
    let offer = is.0 in
    let there = is.1.3.1 in
    subst (λ found. IsChosenOffer rules q offers (option_map (λ o. record { rule = c.rule; offer = listed o; amount = c.amount }) found)) (sym there) (c, offer, is, there, refl)

pub choice_is_true : ChoiceIsExact → ChoiceIsTrue
choice_is_true exact rules q offers = chosen_is_true rules q offers (choice rules offers q) ((exact rules offers q (choice rules offers q)).1 refl)

bad_range_decides : (from to : ℤ) → Decides (is_bad_range from to) (IsBadRange from to)
bad_range_decides from to = Decides-or (int_lt to from) (int_lt (from +ℤ pos 3_659) to) (λ e. grind (arith, ints), λ h. grind (arith, ints)) (λ e. grind (arith, ints), λ h. grind (arith, ints))

in_order : (from to : ℤ) → (IsBadRange from to → ⊥) → from ≤ℤ to
in_order from to good = by (int_lt to from) refl
  where
    by : (b : Bool) → int_lt to from ≡ b → from ≤ℤ to
    by true e = absurd (good (inl (omega (arith, ints))))
    by false e = omega (arith, ints)

dated_are_true : CalendarIsExact → (q : CalendarQuery) → q.from ≤ℤ q.to → (offers : List Offer) → AllZip (λ o d. (d.offer ≡ listed o) × IsCalendar o q d.spans) offers (calendars_of q offers)
dated_are_true exact q le [] = tt
dated_are_true exact q le (o ∷ offers) = ((refl, (exact o q (calendar_spans o q) le).1 refl), dated_are_true exact q le offers)

pub calendars_are_true : CalendarIsExact → CalendarsAreTrue
calendars_are_true exact isbn q offers = by (is_bad_range q.from q.to) (bad_range_decides q.from q.to)
  where
    by : (b : Bool) → Decides b (IsBadRange q.from q.to) → IsCalendarAnswer isbn q offers (cond b answer.BadRange (answer.Calendar isbn (calendars_of q offers)))
    by true bad = bad.0 refl
    by false bad =
        let good : IsBadRange q.from q.to → ⊥ = λ is. absurd (let e = bad.1 is in cc) in
        (good, refl, dated_are_true exact q (in_order q.from q.to good) offers)
