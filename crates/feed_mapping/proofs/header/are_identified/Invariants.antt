use Rattle.std.proofs.Common.{◌≡◌, length}
use Rattle.std.specs.Prelude.{codes}
use Rattle.feed_mapping.specs.Elements.{composites}
use Rattle.feed_mapping.specs.Header.{are_identified}
use Rattle.feed_mapping.proofs.header.are_identified.Given as goal

abbrev pub invariant-loop-found : goal.invariant-loop-found
invariant-loop-found l =
    are_identified (composites (codes "Addressee") l.rest) ≡ are_identified (composites (codes "Addressee") l.elements)

abbrev pub decreases-loop-found : goal.decreases-loop-found
decreases-loop-found l = length (composites (codes "Addressee") l.rest)
