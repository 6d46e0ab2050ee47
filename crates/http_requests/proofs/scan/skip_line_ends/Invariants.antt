use Rattle.std.proofs.Common.{◌≡◌, length}
use Rattle.http_requests.specs.Head.{skip_line_ends}
use Rattle.http_requests.proofs.scan.skip_line_ends.Given as goal

abbrev pub invariant-loop-rest : goal.invariant-loop-rest
invariant-loop-rest l = skip_line_ends l.rest ≡ skip_line_ends l.bytes

abbrev pub decreases-loop-rest : goal.decreases-loop-rest
decreases-loop-rest l = length l.rest
