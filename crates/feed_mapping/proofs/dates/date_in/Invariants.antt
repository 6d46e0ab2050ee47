use Rattle.std.proofs.Common.{◌≡◌}
use Rattle.feed_mapping.specs.Dates.{date_in}
use Rattle.feed_outline.proofs.Counts.{count}
use Rattle.feed_mapping.proofs.dates.date_in.Given as goal

abbrev pub invariant-loop-node : goal.invariant-loop-node
invariant-loop-node l =
    date_in l.rest ≡ date_in l.elements

abbrev pub decreases-loop-node : goal.decreases-loop-node
decreases-loop-node l = count l.rest
