use Rattle.std.proofs.Common.{length}
use Rattle.feed_mapping.specs.Elements.{composites}
use Rattle.feed_files.proofs.counts.+count_at.Given as goal

abbrev pub decreases-count_at : goal.decreases-count_at
decreases-count_at l = length l.path.now

abbrev pub decreases-loop-element : goal.decreases-loop-element
decreases-loop-element l = length (composites l.name.now l.rest)
