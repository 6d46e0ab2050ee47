use Rattle.std.proofs.Common.{◌≡◌, length}
use Rattle.std.specs.Prelude.{find}
use Rattle.std.specs.Str.{bytes_eq}
use Rattle.feed_mapping.specs.Identifiers.{identifiers_in}
use Rattle.feed_mapping.proofs.identifiers.first_of_type.Given as goal

abbrev pub invariant-loop-found : goal.invariant-loop-found
invariant-loop-found l =
    find (λ i. bytes_eq i.id_type l.id_type) (identifiers_in l.kind.name.now l.kind.type_name.now l.rest)
    ≡ find (λ i. bytes_eq i.id_type l.id_type) (identifiers_in l.kind.name.now l.kind.type_name.now l.elements)

abbrev pub decreases-loop-found : goal.decreases-loop-found
decreases-loop-found l = length (identifiers_in l.kind.name.now l.kind.type_name.now l.rest)
