use Rattle.std.proofs.Common.{◌≡◌, filter, not, take}
use Rattle.std.specs.Prelude.{◌==◌}
use Rattle.feed_terms.proofs.with_terms.written_of.Given as goal

abbrev pub invariant-loop-price : goal.invariant-loop-price
invariant-loop-price l = l.written.items ≡ filter (λ c. not (c.amount == 0)) (take l.price-index l.left)
