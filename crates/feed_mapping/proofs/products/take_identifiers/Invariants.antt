use Rattle.std.proofs.Common.{◌≡◌, ◌++◌, length}
use Rattle.std.specs.List.{flat_map}
use Rattle.feed_mapping.specs.Notes.{note_views}
use Rattle.feed_mapping.specs.Products.{identifier_note, identifiers_in, right_pairs}
use Rattle.feed_mapping.proofs.products.take_identifiers.Given as goal

abbrev pub invariant-loop-identifier : goal.invariant-loop-identifier
invariant-loop-identifier l =
    (l.pairs ++ right_pairs l.rest ≡ right_pairs l.elements)
    × (note_views l.notes.items ++ flat_map (λ i. identifier_note i l.has_isbn) (identifiers_in l.rest) ≡ note_views l.initial.notes.items ++ flat_map (λ i. identifier_note i l.has_isbn) (identifiers_in l.elements))

abbrev pub decreases-loop-identifier : goal.decreases-loop-identifier
decreases-loop-identifier l = length (identifiers_in l.rest)
