use Rattle.std.proofs.Common.{◌≡◌, length}
use Rattle.feed_xml.specs.Grammar.{refers}
use Rattle.feed_xml.proofs.references.refers.Given as goal

abbrev pub invariant-loop-rest : goal.invariant-loop-rest
invariant-loop-rest l = refers l.rest ≡ refers l.value

abbrev pub decreases-loop-rest : goal.decreases-loop-rest
decreases-loop-rest l = length l.rest
