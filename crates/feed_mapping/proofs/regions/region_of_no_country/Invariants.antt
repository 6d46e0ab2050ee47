use Rattle.std.proofs.Common.{◌≡◌, length}
use Rattle.feed_mapping.specs.Regions.{region_of_no_country}
use Rattle.feed_mapping.proofs.regions.region_of_no_country.Given as goal

abbrev pub invariant-loop-region : goal.invariant-loop-region
invariant-loop-region l = region_of_no_country l.rest ≡ region_of_no_country l.text

abbrev pub decreases-loop-region : goal.decreases-loop-region
decreases-loop-region l = length l.rest
