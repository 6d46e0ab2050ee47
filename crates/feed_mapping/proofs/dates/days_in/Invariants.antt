use Rattle.std.proofs.Common.{◌≡◌, length}
use Rattle.feed_mapping.specs.DateViews.{days_read}
use Rattle.feed_mapping.specs.Dates.{days_behind, days_in}
use Rattle.std.specs.Prelude.{codes}
use Rattle.feed_mapping.specs.Elements.{composites}
use Rattle.feed_mapping.proofs.dates.days_in.Given as goal

abbrev pub invariant-loop-found : goal.invariant-loop-found
invariant-loop-found l =
    days_behind (days_read l.dated) (composites (codes "PriceDate") l.rest) ≡ days_in l.elements

abbrev pub decreases-loop-found : goal.decreases-loop-found
decreases-loop-found l = length (composites (codes "PriceDate") l.rest)
