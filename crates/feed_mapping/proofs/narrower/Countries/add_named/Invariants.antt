use Rattle.std.proofs.Common.{◌≡◌, length}
use Rattle.feed_mapping.specs.Narrower.{countries_in, each_once}
use Rattle.feed_mapping.specs.NarrowerSets.{AreSeen}
use Rattle.feed_mapping.proofs.narrower.Countries.add_named.Given as goal

abbrev pub invariant-loop-word : goal.invariant-loop-word
invariant-loop-word l = record {
  found : AreSeen l.initial.self → each_once l.self.found (countries_in l.rest) ≡ each_once l.initial.self.found (countries_in l.text);
  seen : AreSeen l.initial.self → AreSeen l.self;
}

abbrev pub decreases-loop-word : goal.decreases-loop-word
decreases-loop-word l = length l.rest
