use Rattle.std.proofs.Common.{◌≡◌, ◌++◌, length}
use Rattle.feed_mapping.specs.Narrower.{countries_without}
use Rattle.feed_mapping.specs.NarrowerSets.{AreSeen}
use Rattle.feed_mapping.proofs.narrower.countries_without.Given as goal

abbrev pub invariant-loop-word : goal.invariant-loop-word
invariant-loop-word l =
    AreSeen l.gone → l.found ++ countries_without l.gone.found l.rest ≡ countries_without l.gone.found l.text

abbrev pub decreases-loop-word : goal.decreases-loop-word
decreases-loop-word l = length l.rest
