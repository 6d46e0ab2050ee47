use Rattle.desk_catalogue.proofs.HeldLemmas.{held_articles, held_offer_rows}
use Rattle.desk_catalogue.proofs.HeldPriceLemmas.{held_prices}
use Rattle.desk_catalogue.proofs.laws.held_entries_are_answered.Goals as goal

pub returns : goal.returns
returns c = record { articles = held_articles; offers = held_offer_rows; prices = held_prices }
