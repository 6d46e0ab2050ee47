use Rattle.std.proofs.Common.{◌≡◌, [], drop, length}
use Rattle.std.specs.List.{zip}
use Rattle.desk_catalogue.specs.Assembly.{grouped}
use Rattle.desk_catalogue.proofs.assemble.group.Given as goal

abbrev pub invariant-loop-i : goal.invariant-loop-i
invariant-loop-i l = record {
  even : length l.offers ≡ length l.prices;
  rest : grouped l.number l.supplies (zip (drop l.i l.offers) (drop l.i l.prices)) ≡ grouped 0 [] (zip l.offers l.prices);
}
