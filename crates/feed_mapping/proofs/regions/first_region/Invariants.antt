use Rattle.std.proofs.Common.{◌≡◌, length}
use Rattle.feed_mapping.specs.Regions.{first_region}
use Rattle.feed_mapping.proofs.regions.first_region.Given as goal

abbrev pub invariant-loop-region : goal.invariant-loop-region
invariant-loop-region l = first_region l.rest ≡ first_region l.text

abbrev pub decreases-loop-region : goal.decreases-loop-region
decreases-loop-region l = length l.rest
