use Rattle.std.proofs.Common.{◌≡◌, length}
use Rattle.feed_mapping.specs.Regions.{names_world}
use Rattle.feed_mapping.proofs.regions.names_world.Given as goal

abbrev pub invariant-loop-region : goal.invariant-loop-region
invariant-loop-region l = names_world l.rest ≡ names_world l.text

abbrev pub decreases-loop-region : goal.decreases-loop-region
decreases-loop-region l = length l.rest
