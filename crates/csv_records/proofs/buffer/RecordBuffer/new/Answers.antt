use Rattle.std.proofs.Common.{refl}
use Rattle.csv_records.specs.Cuts.{cut, AreEnds}
use Rattle.csv_records.proofs.buffer.RecordBuffer.new.Goals as goal

pub invariant_of-result : goal.invariant_of-result
unfolding AreEnds
invariant_of-result c = rw (c.new.ensures, c.new-2.ensures.items) refl

pub returns : goal.returns
unfolding cut
returns c = rw (c.new-2.ensures.items) refl
