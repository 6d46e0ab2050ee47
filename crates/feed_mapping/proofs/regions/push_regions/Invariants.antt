use Rattle.std.proofs.Common.{◌≡◌, ◌++◌, length}
use Rattle.feed_mapping.specs.Notes.{note_views}
use Rattle.feed_mapping.specs.Territories.{region_notes}
use Rattle.feed_mapping.proofs.regions.push_regions.Given as goal

abbrev pub invariant-loop-region : goal.invariant-loop-region
invariant-loop-region l = note_views l.notes.items ++ region_notes l.rest ≡ note_views l.initial.notes.items ++ region_notes l.text

abbrev pub decreases-loop-region : goal.decreases-loop-region
decreases-loop-region l = length l.rest
