use Rattle.std.proofs.Common.{◌≡◌, ◌++◌, length}
use Rattle.std.specs.Prelude.{filter}
use Rattle.feed_mapping.specs.Unions.{countries_from, is_wanted, letters}
use Rattle.feed_mapping.proofs.unions.push_countries.Given as goal

abbrev pub invariant-loop-rest : goal.invariant-loop-rest
invariant-loop-rest l =
    l.found ++ filter (is_wanted l.territories l.inside) (countries_from l.rest l.first)
    ≡ l.initial.found ++ filter (is_wanted l.territories l.inside) (countries_from letters l.first)

abbrev pub decreases-loop-rest : goal.decreases-loop-rest
decreases-loop-rest l = length l.rest
