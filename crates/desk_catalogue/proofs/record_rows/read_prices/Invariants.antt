use Rattle.std.proofs.Common.{Ok, take}
use Rattle.std.specs.List.{AllZip}
use Rattle.desk_catalogue.specs.Achieves.{Does}
use Rattle.desk_catalogue.specs.Calls.{KeepsRows}
use Rattle.desk_catalogue.specs.ReadRows.{HasPricesOf, AreReadAs}
use Rattle.desk_catalogue.proofs.record_rows.read_prices.Given as goal

abbrev pub invariant-loop-offer : goal.invariant-loop-offer
invariant-loop-offer g l = Does g.S.Store (KeepsRows (λ rows (_ : Unit {0}). AreReadAs l.with_minimums l.offers rows → AllZip (HasPricesOf rows) (take l.offer-index l.offers) l.prices.items)) l.fn.work l.work (Ok tt)
