use Rattle.std.proofs.Common.{◌≤◌, ◌-◌, ◌+◌, vec_len}
use Rattle.std.specs.Io.KnownBytes.{Consumes}
use Rattle.csv_records.proofs.streams.read_input.Given as goal

abbrev pub invariant-reading : goal.invariant-reading
invariant-reading g l = record {
  within : vec_len l.bytes ≤ l.most + 1;
  so_far : Consumes (g.R.Read.remaining l.fn.reader) (g.R.Read.remaining l.reader) l.bytes.items;
}

abbrev pub decreases-reading : goal.decreases-reading
decreases-reading g l = (l.most + 1) - vec_len l.bytes
