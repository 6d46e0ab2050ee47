use Rattle.std.proofs.Common.{◌≡◌, length}
use Rattle.feed_mapping.specs.Narrower.{countries_before, each_once}
use Rattle.feed_mapping.specs.NarrowerSets.{AreSeen}
use Rattle.feed_mapping.proofs.narrower.Countries.add_before.Given as goal

abbrev pub invariant-loop-rest : goal.invariant-loop-rest
invariant-loop-rest l = record {
  found : AreSeen l.initial.self
      → each_once l.self.found (countries_before l.rest l.alike) ≡ each_once l.initial.self.found (countries_before l.firsts l.alike);
  seen : AreSeen l.initial.self → AreSeen l.self;
}

abbrev pub decreases-loop-rest : goal.decreases-loop-rest
decreases-loop-rest l = length l.rest
