use Rattle.desk_catalogue.proofs.DoesLemmas.{called, did_also}
use Rattle.desk_catalogue.proofs.record_rows.read_own_prices.Goals as goal

pub returns-then-with_minimums : goal.returns-then-with_minimums
returns-then-with_minimums g c = did_also (called c.offer_prices.ensures) (λ rows after prices one. (one.1, λ lacks. one.0))

pub returns : goal.returns
returns g c = did_also (called c.offer_prices_without_minimums.ensures) (λ rows after prices one. (one.1, λ lacks. one.0 (lacks c.if-with_minimums.false)))
