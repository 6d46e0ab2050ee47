use Rattle.price_rules.proofs.CalendarSpans.{calendar_exact}
use Rattle.price_rules.proofs.laws.calendar_is_exact.Goals as goal

pub returns : goal.returns
returns c = calendar_exact
