use Rattle.std.proofs.Common.{length}
use Rattle.feed_mapping.proofs.records.+first_of.Given as goal

abbrev pub decreases-first_of : goal.decreases-first_of
decreases-first_of l = length l.reasons.now
