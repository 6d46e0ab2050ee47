use Rattle.std.proofs.Common.{◌≡◌, ◌+◌, ◌++◌, drop}
use Rattle.std.specs.List.{enumerate_from, flat_map}
use Rattle.desk_catalogue.specs.EntryRows.{numbered_details, offer_price_rows, price_rows_of}
use Rattle.desk_catalogue.proofs.build.add_price_rows.Given as goal

abbrev pub invariant-loop-supply : goal.invariant-loop-supply
invariant-loop-supply l = l.rows.items ++ flat_map (offer_price_rows l.series l.reference) (enumerate_from l.place (flat_map numbered_details (enumerate_from (l.supply-index + 1) (drop l.supply-index l.supplies)))) ≡ l.fn.rows.items ++ price_rows_of l.series l.reference l.supplies
