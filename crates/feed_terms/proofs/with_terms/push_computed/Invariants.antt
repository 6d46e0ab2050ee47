use Rattle.std.proofs.Common.{◌≡◌, ◌++◌, map, take}
use Rattle.feed_terms.specs.WithTerms.{computed_record}
use Rattle.feed_terms.proofs.with_terms.push_computed.Given as goal

abbrev pub invariant-loop-price : goal.invariant-loop-price
invariant-loop-price l = l.records ≡ l.fn.records ++ map (computed_record l.source) (take l.price-index l.prices)
