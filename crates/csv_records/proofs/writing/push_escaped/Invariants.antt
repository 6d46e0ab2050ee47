use Rattle.std.proofs.Common.{◌≡◌, ◌++◌, take}
use Rattle.csv.specs.Writing.{default_writer, escaped}
use Rattle.csv_records.proofs.writing.push_escaped.Given as goal

abbrev pub invariant-loop-i : goal.invariant-loop-i
invariant-loop-i l = l.text.items ≡ l.fn.text.items ++ escaped default_writer (take l.i l.field)
