use Rattle.std.proofs.Common.{◌≡◌, length}
use Rattle.feed_mapping.specs.Regions.{two_letters_in}
use Rattle.feed_mapping.proofs.regions.two_letters_in.Given as goal

abbrev pub invariant-loop-region : goal.invariant-loop-region
invariant-loop-region l = two_letters_in l.rest ≡ two_letters_in l.text

abbrev pub decreases-loop-region : goal.decreases-loop-region
decreases-loop-region l = length l.rest
