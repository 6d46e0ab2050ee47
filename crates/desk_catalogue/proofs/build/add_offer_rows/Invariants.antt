use Rattle.std.proofs.Common.{◌≡◌, ◌++◌, drop, map}
use Rattle.std.specs.List.{enumerate_from, flat_map}
use Rattle.desk_catalogue.specs.EntryRows.{numbered_details, offer_row_of, offer_rows_of}
use Rattle.desk_catalogue.proofs.build.add_offer_rows.Given as goal

abbrev pub invariant-loop-supply : goal.invariant-loop-supply
invariant-loop-supply l = l.rows.items ++ map (offer_row_of l.series l.reference) (enumerate_from l.place (flat_map numbered_details (enumerate_from l.number (drop l.supply-index l.supplies)))) ≡ l.fn.rows.items ++ offer_rows_of l.series l.reference l.supplies
