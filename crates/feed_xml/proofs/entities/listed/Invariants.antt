use Rattle.std.proofs.Common.{◌≡◌, length}
use Rattle.feed_xml.specs.References.{listed}
use Rattle.feed_xml.specs.private.References.{word_of}
use Rattle.feed_xml.proofs.entities.listed.Given as goal

abbrev pub invariant-loop-rest : goal.invariant-loop-rest
invariant-loop-rest l = word_of (listed l.name l.rest) ≡ word_of (listed l.name l.list)

abbrev pub decreases-loop-rest : goal.decreases-loop-rest
decreases-loop-rest l = length l.rest
