use Rattle.std.proofs.Common.{◌≡◌, ◌++◌, length, take, map}
use Rattle.csv_records.proofs.fields.FieldBuffer.push_all.Given as goal

abbrev pub invariant-loop-text : goal.invariant-loop-text
invariant-loop-text l = (l.count ≡ length l.fn.self) × (l.self ≡ l.fn.self ++ map (λ f. f.now) (take l.text-index l.fields))
