use Rattle.std.proofs.Common.{length}
use Rattle.feed_xml.proofs.AttributeRuns.{SoFar}
use Rattle.feed_xml.proofs.attributes.attribute_bytes.Given as goal

abbrev pub invariant-reading : goal.invariant-reading
invariant-reading l = SoFar l.bytes l.rest

abbrev pub decreases-reading : goal.decreases-reading
decreases-reading l = length l.rest
