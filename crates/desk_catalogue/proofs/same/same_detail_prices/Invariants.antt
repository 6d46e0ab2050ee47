use Rattle.std.proofs.Common.{◌≡◌, ◌↔◌, drop}
use Rattle.desk_catalogue.proofs.SamePrices.{all_prices}
use Rattle.desk_catalogue.proofs.same.same_detail_prices.Given as goal

abbrev pub invariant-loop-supply : goal.invariant-loop-supply
invariant-loop-supply l = (l.read ≡ all_prices l.supplies) ↔ (l.rest ≡ all_prices (drop l.supply-index l.supplies))
