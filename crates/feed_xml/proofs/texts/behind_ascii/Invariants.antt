use Rattle.std.proofs.Common.{◌≡◌, ◌≤◌, length}
use Rattle.feed_xml.specs.declared.texts.Part.TheVariants.{Whole}
use Rattle.feed_xml.specs.Texts.{follow}
use Rattle.feed_xml.proofs.texts.behind_ascii.Given as goal

abbrev pub invariant-loop-rest : goal.invariant-loop-rest
invariant-loop-rest l = record {
  same : follow Whole l.rest ≡ follow Whole l.bytes;
  shorter : length l.rest ≤ length l.bytes;
}

abbrev pub decreases-loop-rest : goal.decreases-loop-rest
decreases-loop-rest l = length l.rest
