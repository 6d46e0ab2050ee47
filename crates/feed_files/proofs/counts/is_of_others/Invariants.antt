use Rattle.std.proofs.Common.{◌≡◌, length}
use Rattle.feed_mapping.specs.Notes.{note_views}
use Rattle.feed_conversion.specs.Tallies.{is_of_others}
use Rattle.feed_files.proofs.counts.is_of_others.Given as goal

abbrev pub invariant-loop-rest : goal.invariant-loop-rest
invariant-loop-rest l = is_of_others (note_views l.rest) ≡ is_of_others (note_views l.notes)

abbrev pub decreases-loop-rest : goal.decreases-loop-rest
decreases-loop-rest l = length l.rest
