use Rattle.std.proofs.Common.{◌≡◌, ◌+◌, ◌++◌, drop, length, map}
use Rattle.std.specs.List.{enumerate_from}
use Rattle.desk_catalogue.specs.EntryRows.{numbered_details, offer_row_of}
use Rattle.desk_catalogue.proofs.build.add_supply_offers.Given as goal

abbrev pub invariant-loop-detail : goal.invariant-loop-detail
invariant-loop-detail l = record {
  place : l.place + length (drop l.detail-index l.supply.details) ≡ l.from + length l.supply.details;
  rows : l.rows.items ++ map (offer_row_of l.series l.reference) (enumerate_from l.place (map (λ d. record { supply = l.number; market = l.supply.market; detail = d }) (drop l.detail-index l.supply.details)))
      ≡ l.fn.rows.items ++ map (offer_row_of l.series l.reference) (enumerate_from l.from (numbered_details (l.number, l.supply)));
}
