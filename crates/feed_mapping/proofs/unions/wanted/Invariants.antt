use Rattle.std.proofs.Common.{◌≡◌, ◌++◌, length}
use Rattle.std.specs.Prelude.{filter}
use Rattle.std.specs.List.{flat_map}
use Rattle.feed_mapping.specs.Unions.{countries_from, is_wanted, letters, wanted}
use Rattle.feed_mapping.proofs.unions.wanted.Given as goal

abbrev pub invariant-loop-rest : goal.invariant-loop-rest
invariant-loop-rest l =
    l.found ++ filter (is_wanted l.territories l.inside) (flat_map (countries_from letters) l.rest) ≡ wanted l.territories l.inside

abbrev pub decreases-loop-rest : goal.decreases-loop-rest
decreases-loop-rest l = length l.rest
