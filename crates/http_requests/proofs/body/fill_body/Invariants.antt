-- What was read so far stands behind what was there.
use Rattle.std.proofs.Common.{◌≡◌, ◌≤◌, ◌-◌, ◌++◌, ℕ, List, take, vec_len}
use Rattle.std.specs.Io.KnownBytes.{Consumes}
use Rattle.http_requests.proofs.body.fill_body.Given as goal

abbrev pub invariant-loop-filled : goal.invariant-loop-filled
invariant-loop-filled g l = record {
  within : l.filled ≤ vec_len l.body;
  fits : vec_len l.body ≤ l.size;
  least : vec_len l.fn.body ≤ l.filled;
  read : (got : List ℕ) × (take l.filled l.body.items ≡ l.fn.body.items ++ got) × Consumes (g.R.Read.remaining l.fn.reader) (g.R.Read.remaining l.reader) got;
}

abbrev pub decreases-loop-filled : goal.decreases-loop-filled
decreases-loop-filled g l = l.size - l.filled
