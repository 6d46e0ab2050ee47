use Rattle.std.proofs.Common.{refl}
use Rattle.series_rules.proofs.price_answers.date_offer.Goals as goal

pub returns-in-Ok : goal.returns-in-Ok
returns-in-Ok c = rw (c.into_listed-offer.ensures, c.in-Ok.ensures.value) refl
