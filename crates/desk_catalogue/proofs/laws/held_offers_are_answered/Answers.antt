use Rattle.desk_catalogue.proofs.OfferLemmas.{held_article_offers}
use Rattle.desk_catalogue.proofs.laws.held_offers_are_answered.Goals as goal

pub returns : goal.returns
returns c = held_article_offers
