use Rattle.std.proofs.Common.{◌≡◌, length}
use Rattle.feed_mapping.specs.Header.{behind_zeros}
use Rattle.feed_mapping.proofs.header.behind_zeros.Given as goal

abbrev pub invariant-loop-rest : goal.invariant-loop-rest
invariant-loop-rest l = behind_zeros l.rest ≡ behind_zeros l.text

abbrev pub decreases-loop-rest : goal.decreases-loop-rest
decreases-loop-rest l = length l.rest
