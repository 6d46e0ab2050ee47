use Rattle.series_rules.proofs.OfferLaw.{offers_are_true}
use Rattle.series_rules.proofs.laws.offers_are_true.Goals as goal

pub returns : goal.returns
returns c = offers_are_true
