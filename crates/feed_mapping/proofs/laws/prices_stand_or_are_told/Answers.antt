use Rattle.feed_mapping.proofs.PriceFateLaws.{detail-has, product-has, supply-has}
use Rattle.feed_mapping.proofs.laws.prices_stand_or_are_told.Goals as goal

pub returns-clause-details : goal.returns-clause-details
returns-clause-details c = detail-has

pub returns-clause-supplies : goal.returns-clause-supplies
returns-clause-supplies c = supply-has

pub returns-clause-products : goal.returns-clause-products
returns-clause-products c = product-has
