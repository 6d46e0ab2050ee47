use Rattle.std.proofs.Common.{sym}
use Rattle.series_rules.proofs.HeldNumbers.{last_is_greatest}
use Rattle.series_rules.proofs.gaps.greatest_number.Goals as goal

pub returns-in-Some : goal.returns-in-Some
returns-in-Some c = λ f below least held. last_is_greatest f c.args.held.now c.args.next c.in-Some.number.now held (sym c.in-Some.ensures.value)
