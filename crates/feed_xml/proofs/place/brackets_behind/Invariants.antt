use Rattle.std.proofs.Common.{◌≡◌, length}
use Rattle.feed_xml.specs.private.Places.{brackets_after}
use Rattle.feed_xml.proofs.place.brackets_behind.Given as goal

abbrev pub invariant-loop-rest : goal.invariant-loop-rest
invariant-loop-rest l = brackets_after l.count l.rest ≡ brackets_after l.fn.before l.run

abbrev pub decreases-loop-rest : goal.decreases-loop-rest
decreases-loop-rest l = length l.rest
