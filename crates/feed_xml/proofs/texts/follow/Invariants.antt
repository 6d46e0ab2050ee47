use Rattle.std.proofs.Common.{◌≡◌, ◌≤◌, length}
use Rattle.feed_xml.specs.Texts.{IsSmall, follow}
use Rattle.feed_xml.proofs.texts.follow.Given as goal

abbrev pub invariant-loop-rest : goal.invariant-loop-rest
invariant-loop-rest l = record {
  same : follow l.part l.rest ≡ follow l.fn.part l.bytes;
  small : IsSmall l.part;
  shorter : length l.rest ≤ length l.bytes;
  within : l.whole ≤ length l.bytes;
}

abbrev pub decreases-loop-rest : goal.decreases-loop-rest
decreases-loop-rest l = length l.rest
