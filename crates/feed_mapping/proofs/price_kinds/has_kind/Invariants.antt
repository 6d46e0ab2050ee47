use Rattle.std.proofs.Common.{◌≡◌, length}
use Rattle.std.specs.List.{list_any}
use Rattle.feed_mapping.specs.Prices.{is_kind}
use Rattle.feed_mapping.proofs.price_kinds.has_kind.Given as goal

abbrev pub invariant-loop-rest : goal.invariant-loop-rest
invariant-loop-rest l = list_any (is_kind l.kind) l.rest ≡ list_any (is_kind l.kind) l.kinds

abbrev pub decreases-loop-rest : goal.decreases-loop-rest
decreases-loop-rest l = length l.rest
