use Rattle.std.proofs.Common.{◌≡◌, ◌++◌, drop, map}
use Rattle.std.specs.List.{enumerate_from}
use Rattle.desk_catalogue.specs.EntryRows.{offer_price_row}
use Rattle.desk_catalogue.proofs.build.add_prices.Given as goal

abbrev pub invariant-loop-price : goal.invariant-loop-price
invariant-loop-price l = l.rows.items ++ map (offer_price_row l.series l.reference l.place) (enumerate_from l.price_place (drop l.price-index l.prices)) ≡ l.fn.rows.items ++ map (offer_price_row l.series l.reference l.place) (enumerate_from 1 l.prices)
