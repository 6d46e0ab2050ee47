use Rattle.std.proofs.Common.{◌≡◌, length}
use Rattle.feed_mapping.specs.Notes.{note_views}
use Rattle.feed_mapping.specs.ProductRecords.{has_wrong}
use Rattle.feed_conversion.proofs.tally.has_wrong.Given as goal

abbrev pub invariant-loop-rest : goal.invariant-loop-rest
invariant-loop-rest l = has_wrong (note_views l.rest) ≡ has_wrong (note_views l.notes)

abbrev pub decreases-loop-rest : goal.decreases-loop-rest
decreases-loop-rest l = length l.rest
