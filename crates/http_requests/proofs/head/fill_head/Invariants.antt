-- What was read so far has no head within the limit.
use Rattle.std.proofs.Common.{◌-◌, ◌≡◌, ◌≤◌, length, take}
use Rattle.std.specs.Io.KnownBytes.{Consumes}
use Rattle.http_requests.specs.Head.{HasNoHead}
use Rattle.http_requests.proofs.head.fill_head.Given as goal

abbrev pub invariant-loop-filled : goal.invariant-loop-filled
invariant-loop-filled g l = record {
  within : l.filled ≤ 16384;
  room : length l.bytes ≡ 16384;
  fields : 5461 ≤ length l.spans;
  read : Consumes (g.R.Read.remaining l.fn.reader) (g.R.Read.remaining l.reader) (take l.filled l.bytes);
  none : HasNoHead (take l.filled l.bytes);
}

abbrev pub decreases-loop-filled : goal.decreases-loop-filled
decreases-loop-filled g l = 16384 - l.filled
