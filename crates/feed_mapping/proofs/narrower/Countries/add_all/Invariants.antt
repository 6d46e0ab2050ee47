use Rattle.std.proofs.Common.{◌≡◌, length}
use Rattle.feed_mapping.specs.Narrower.{each_once}
use Rattle.feed_mapping.specs.NarrowerSets.{AreSeen}
use Rattle.feed_mapping.proofs.narrower.Countries.add_all.Given as goal

abbrev pub invariant-loop-rest : goal.invariant-loop-rest
invariant-loop-rest l = record {
  found : AreSeen l.initial.self → each_once l.self.found l.rest ≡ each_once l.initial.self.found l.countries;
  seen : AreSeen l.initial.self → AreSeen l.self;
}

abbrev pub decreases-loop-rest : goal.decreases-loop-rest
decreases-loop-rest l = length l.rest
