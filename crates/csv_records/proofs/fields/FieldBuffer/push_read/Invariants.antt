use Rattle.std.proofs.Common.{◌≡◌, ◌++◌, length, take}
use Rattle.csv.specs.Records.{fields_of}
use Rattle.csv_records.proofs.fields.FieldBuffer.push_read.Given as goal

abbrev pub invariant-loop-i : goal.invariant-loop-i
invariant-loop-i l = (l.count ≡ length l.fn.self) × (l.self ≡ l.fn.self ++ take l.i (fields_of l.from))
