use Rattle.std.proofs.Common.{◌≡◌, ◌≤◌, length}
use Rattle.feed_xml.specs.private.Places.{brackets_after}
use Rattle.feed_xml.proofs.place.from_bracket.Given as goal

abbrev pub invariant-loop-rest : goal.invariant-loop-rest
invariant-loop-rest l = record {
  same : brackets_after 0 l.rest ≡ brackets_after 0 l.run;
  shorter : length l.rest ≤ length l.run;
}

abbrev pub decreases-loop-rest : goal.decreases-loop-rest
decreases-loop-rest l = length l.rest
