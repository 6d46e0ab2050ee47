use Rattle.std.proofs.Common.{◌≡◌, length, take}
use Rattle.desk_catalogue.proofs.same.same_offers.Given as goal

abbrev pub invariant-loop-i : goal.invariant-loop-i
invariant-loop-i l = record { even : length l.a ≡ length l.b; so_far : take l.i l.a ≡ take l.i l.b }
