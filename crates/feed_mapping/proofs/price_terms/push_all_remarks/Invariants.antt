use Rattle.std.proofs.Common.{◌≡◌, length}
use Rattle.feed_mapping.specs.Notes.{note_views}
use Rattle.feed_mapping.proofs.price_terms.push_all_remarks.Given as goal

abbrev pub invariant-loop-rest : goal.invariant-loop-rest
invariant-loop-rest l =
    note_views l.notes.items ≡ note_views l.initial.notes.items

abbrev pub decreases-loop-rest : goal.decreases-loop-rest
decreases-loop-rest l = length l.rest
