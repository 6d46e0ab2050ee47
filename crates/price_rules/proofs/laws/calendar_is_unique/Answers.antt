use Rattle.price_rules.proofs.CalendarSpans.{calendar_unique}
use Rattle.price_rules.proofs.laws.calendar_is_unique.Goals as goal

pub returns : goal.returns
returns c = calendar_unique
