use Rattle.std.proofs.Common.{◌≡◌, length}
use Rattle.feed_mapping.specs.Elements.{composites}
use Rattle.feed_mapping.specs.Notes.{note_views}
use Rattle.feed_mapping.proofs.discounts.push_unread.Given as goal

abbrev pub invariant-loop-found : goal.invariant-loop-found
invariant-loop-found l =
    note_views l.notes.items ≡ note_views l.initial.notes.items

abbrev pub decreases-loop-found : goal.decreases-loop-found
decreases-loop-found l = length (composites l.name l.rest)
