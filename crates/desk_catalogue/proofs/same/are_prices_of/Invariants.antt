use Rattle.std.proofs.Common.{◌≡◌, length, map, take}
use Rattle.onix_records.specs.declared.parts.SupplyDetail.{SupplyDetail}
use Rattle.desk_catalogue.proofs.same.are_prices_of.Given as goal

abbrev pub invariant-loop-i : goal.invariant-loop-i
invariant-loop-i l = record { even : length l.read ≡ length l.details; so_far : take l.i l.read ≡ map (λ (d : SupplyDetail). d.prices) (take l.i l.details) }
