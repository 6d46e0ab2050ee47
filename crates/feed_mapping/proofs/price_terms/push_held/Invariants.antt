use Rattle.std.proofs.Common.{◌≡◌}
use Rattle.feed_mapping.specs.Notes.{note_views}
use Rattle.feed_mapping.proofs.price_terms.push_held.Given as goal

abbrev pub invariant-loop-left : goal.invariant-loop-left
invariant-loop-left l =
    note_views l.notes.items ≡ note_views l.initial.notes.items

abbrev pub decreases-loop-left : goal.decreases-loop-left
decreases-loop-left l = l.left
