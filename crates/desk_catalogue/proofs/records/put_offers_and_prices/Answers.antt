use Rattle.std.proofs.Common.{rules}
use Rattle.desk_catalogue.proofs.DoesLemmas.{added, changed_then, did_stop}
use Rattle.desk_catalogue.proofs.records.put_offers_and_prices.Goals as goal

pub returns : goal.returns
returns g c = changed_then (added c.in_ok-put_offers.ensures) (added c.put_prices.ensures)

pub returns-in_err-put_offers : goal.returns-in_err-put_offers
returns-in_err-put_offers g c = did_stop {e = c.in_err-put_offers.field-0.0} (search rules) (added c.in_err-put_offers.ensures)
