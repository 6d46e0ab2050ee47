use Rattle.std.proofs.Common.{◌≡◌, length}
use Rattle.feed_xml.specs.EncodingNames.{is_alike}
use Rattle.feed_xml.proofs.encoding_names.is_alike.Given as goal

abbrev pub invariant-loop-left : goal.invariant-loop-left
invariant-loop-left l = is_alike l.left l.right ≡ is_alike l.name l.plain

abbrev pub decreases-loop-left : goal.decreases-loop-left
decreases-loop-left l = length l.left
