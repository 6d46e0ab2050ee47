use Rattle.std.proofs.Common.{refl}
use Rattle.csv_records.specs.Cuts.{cut}
use Rattle.csv_records.proofs.CutFacts.{holds-none}
use Rattle.csv_records.proofs.fields.FieldBuffer.with_capacity.Goals as goal

pub invariant_of-result : goal.invariant_of-result
invariant_of-result c = rw (c.in_ok-ends.ensures.items, c.in_ok-bytes.ensures.items) holds-none

pub returns : goal.returns
unfolding cut
returns c = rw (c.in_ok-ends.ensures.items) refl
