use Rattle.std.proofs.Common.{◌≡◌, length}
use Rattle.feed_mapping.specs.Notes.{note_views}
use Rattle.feed_mapping.proofs.regions.push_other_names.Given as goal

abbrev pub invariant-loop-country : goal.invariant-loop-country
invariant-loop-country l = note_views l.notes.items ≡ note_views l.initial.notes.items

abbrev pub decreases-loop-country : goal.decreases-loop-country
decreases-loop-country l = length l.rest
