use Rattle.std.proofs.Common.{◌≤ℤ◌, arith}
use Rattle.std.proofs.lemmas.Int.{ints}
use Rattle.price_rules.proofs.CalendarSpans.{calendar_exact}
use Rattle.price_rules.proofs.day_by_day.calendar_day_by_day.Goals as goal

pub returns-clause-value : goal.returns-clause-value
returns-clause-value c =
    let q = c.args.query.now in
    let has_day : q.from ≤ℤ q.to = grind (arith, ints) in
    (calendar_exact c.args.offer.now q c.in_ok-daily_spans.field-0 has_day).0 c.in_ok-daily_spans.ensures
