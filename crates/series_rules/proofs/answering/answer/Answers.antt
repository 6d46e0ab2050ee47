use Rattle.std.proofs.Common.{refl}
use Rattle.series_rules.specs.declared.requests.Request.TheVariants.{AskPrice, AskChoice, AskCalendar, AskGaps, AskCatalogue, Malformed}
use Rattle.series_rules.proofs.ViewLemmas.{asks_of, only_unasked}
use Rattle.series_rules.proofs.answering.answer.Goals as goal

pub returns-in-AskPrice : goal.returns-in-AskPrice
returns-in-AskPrice g c = rw c.in-AskPrice.is (record { asks = asks_of (AskPrice c.in-AskPrice.isbn c.in-AskPrice.query) _ _ _ _ refl c.answer_price.ensures })

pub returns-in-AskChoice : goal.returns-in-AskChoice
returns-in-AskChoice g c = rw c.in-AskChoice.is (record { asks = asks_of (AskChoice c.in-AskChoice.isbn c.in-AskChoice.query) _ _ _ _ refl c.answer_choice.ensures })

pub returns-in-AskCalendar : goal.returns-in-AskCalendar
returns-in-AskCalendar g c = rw c.in-AskCalendar.is (record { asks = asks_of (AskCalendar c.in-AskCalendar.isbn c.in-AskCalendar.query) _ _ _ _ refl c.answer_calendar.ensures })

pub returns-in-AskGaps : goal.returns-in-AskGaps
returns-in-AskGaps g c = rw c.in-AskGaps.is (record { asks = asks_of (AskGaps c.in-AskGaps.series) _ _ _ _ refl c.answer_gaps.ensures })

pub returns-in-AskCatalogue : goal.returns-in-AskCatalogue
returns-in-AskCatalogue g c = rw c.in-AskCatalogue.is (record { asks = asks_of (AskCatalogue c.in-AskCatalogue.series) _ _ _ _ refl c.answer_catalogue.ensures })

pub returns-in-Malformed : goal.returns-in-Malformed
returns-in-Malformed g c = rw c.in-Malformed.is (record { asks = asks_of (Malformed c.in-Malformed.row) _ _ _ _ refl (only_unasked _ _ _ (λ L. refl)) })
