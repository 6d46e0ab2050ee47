use Rattle.std.proofs.Common.{◌≡◌, ◌+◌, ◌++◌, ℕ, drop, length, map}
use Rattle.std.specs.List.{enumerate_from, flat_map}
use Rattle.desk_catalogue.specs.EntryRows.{numbered_details, offer_price_rows}
use Rattle.desk_catalogue.proofs.build.add_supply_prices.Given as goal

abbrev pub invariant-loop-detail : goal.invariant-loop-detail
invariant-loop-detail l = record {
  place : l.place + length (drop l.detail-index l.supply.details) ≡ l.from + length l.supply.details;
  rows : (number : ℕ) → l.rows.items ++ flat_map (offer_price_rows l.series l.reference) (enumerate_from l.place (map (λ d. record { supply = number; market = l.supply.market; detail = d }) (drop l.detail-index l.supply.details)))
      ≡ l.fn.rows.items ++ flat_map (offer_price_rows l.series l.reference) (enumerate_from l.from (numbered_details (number, l.supply)));
}
