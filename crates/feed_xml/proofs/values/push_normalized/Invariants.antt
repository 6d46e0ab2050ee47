use Rattle.std.proofs.Common.{◌≡◌, ◌++◌, None, length}
use Rattle.feed_xml.specs.Values.{normalized_from, normalized}
use Rattle.feed_xml.proofs.values.push_normalized.Given as goal

abbrev pub invariant-loop-rest : goal.invariant-loop-rest
invariant-loop-rest l = l.out.items ++ normalized_from None l.rest ≡ l.fn.out.items ++ normalized l.value

abbrev pub decreases-loop-rest : goal.decreases-loop-rest
decreases-loop-rest l = length l.rest
