use Rattle.series_rules.proofs.PriceLaws.{calendars_are_true}
use Rattle.series_rules.proofs.laws.calendars_are_true.Goals as goal

pub returns : goal.returns
returns c = calendars_are_true c.calendar_is_exact.ensures
