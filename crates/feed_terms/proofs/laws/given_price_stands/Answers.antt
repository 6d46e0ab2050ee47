use Rattle.feed_terms.proofs.Stands.{given_stands}
use Rattle.feed_terms.proofs.laws.given_price_stands.Goals as goal

pub returns : goal.returns
returns c = given_stands
