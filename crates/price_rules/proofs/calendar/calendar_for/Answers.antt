use Rattle.price_rules.proofs.CalendarSpans.{calendar_exact}
use Rattle.price_rules.proofs.calendar.calendar_for.Goals as goal

pub returns-clause-value : goal.returns-clause-value
returns-clause-value c =
    (calendar_exact c.args.offer.now c.args.query.now c.in_ok-spans_of.field-0 c.in_ok-days.ensures.range).0 c.in_ok-spans_of.ensures
