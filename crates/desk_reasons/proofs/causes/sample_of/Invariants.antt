use Rattle.std.proofs.Common.{◌≡◌, length}
use Rattle.desk_reasons.proofs.causes.sample_of.Given as goal

abbrev pub invariant-loop-place : goal.invariant-loop-place
invariant-loop-place l = length l.fields ≡ l.place
