use Rattle.std.proofs.Common.{◌≡◌, ◌++◌, ℕ, List, length}
use Rattle.csv_records.proofs.reading.append_each.Given as goal

abbrev pub invariant-reading : goal.invariant-reading
invariant-reading l = record {
  some : List (List (List ℕ));
  added : l.buffer ≡ l.fn.buffer ++ some;
  left : l.fn.reader ≡ some ++ l.reader;
}

abbrev pub decreases-reading : goal.decreases-reading
decreases-reading l = length l.reader
