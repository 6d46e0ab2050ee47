use Rattle.feed_terms.proofs.LeastPrices.{least_old}
use Rattle.feed_terms.proofs.computed.set_least.Goals as goal

pub returns-clause-prices : goal.returns-clause-prices
returns-clause-prices c = least_old c.args.price c.args.prices.now.items c.index-first.result.now c.args.place c.lesser.result c.requires c.index-first.ensures c.lesser.ensures
