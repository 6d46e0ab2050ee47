use Rattle.std.proofs.Common.{refl}
use Rattle.csv_records.specs.Cuts.{cut, AreEnds}
use Rattle.csv_records.proofs.buffer.RecordBuffer.with_capacity.Goals as goal

pub invariant_of-result : goal.invariant_of-result
unfolding AreEnds
invariant_of-result c = rw (c.in_ok-fields.ensures, c.in_ok-ends.ensures.items) refl

pub returns : goal.returns
unfolding cut
returns c = rw (c.in_ok-ends.ensures.items) refl
