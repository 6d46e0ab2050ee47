use Rattle.std.proofs.Common.{◌≡◌, length}
use Rattle.feed_mapping.specs.Products.{has_isbn, identifiers_in}
use Rattle.feed_mapping.proofs.products.has_isbn.Given as goal

abbrev pub invariant-loop-identifier : goal.invariant-loop-identifier
invariant-loop-identifier l = has_isbn l.rest ≡ has_isbn l.elements

abbrev pub decreases-loop-identifier : goal.decreases-loop-identifier
decreases-loop-identifier l = length (identifiers_in l.rest)
