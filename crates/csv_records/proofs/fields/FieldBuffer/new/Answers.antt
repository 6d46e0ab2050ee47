use Rattle.std.proofs.Common.{refl}
use Rattle.csv_records.specs.Cuts.{cut}
use Rattle.csv_records.proofs.CutFacts.{holds-none}
use Rattle.csv_records.proofs.fields.FieldBuffer.new.Goals as goal

pub invariant_of-result : goal.invariant_of-result
invariant_of-result c = rw (c.new.ensures.items, c.new-2.ensures.items) holds-none

pub returns : goal.returns
unfolding cut
returns c = rw (c.new-2.ensures.items) refl
