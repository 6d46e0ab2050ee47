use Rattle.std.proofs.Common.{◌≡◌, length, map}
use Rattle.std.specs.Prelude.{codes}
use Rattle.feed_mapping.specs.Details.{unpriced_price}
use Rattle.feed_mapping.specs.Elements.{composites}
use Rattle.feed_mapping.specs.Records.{first_some}
use Rattle.feed_mapping.proofs.details.unpriced_in.Given as goal

abbrev pub invariant-loop-price : goal.invariant-loop-price
invariant-loop-price l =
    first_some (map (λ c. unpriced_price c.below) (composites (codes "Price") l.rest)) ≡ first_some (map (λ c. unpriced_price c.below) (composites (codes "Price") l.elements))

abbrev pub decreases-loop-price : goal.decreases-loop-price
decreases-loop-price l = length (composites (codes "Price") l.rest)
