use Rattle.std.proofs.Common.{◌∙◌}
use Rattle.desk_catalogue.proofs.runs.put_supplies_of.Goals as goal

pub returns : goal.returns
returns g c = rw (c.as_slice.ensures.value ∙ c.in_ok-offers.ensures, c.as_slice-2.ensures.value ∙ c.in_ok-prices.ensures) at c.put_offers_and_prices.ensures
