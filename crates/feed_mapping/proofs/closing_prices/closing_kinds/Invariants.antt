use Rattle.std.proofs.Common.{◌≡◌, ◌++◌, length, map}
use Rattle.feed_mapping.specs.PriceTexts.{price_view}
use Rattle.feed_mapping.specs.Prices.{closing_kinds, context_view}
use Rattle.feed_mapping.proofs.closing_prices.closing_kinds.Given as goal

abbrev pub invariant-loop-rest : goal.invariant-loop-rest
invariant-loop-rest l =
    l.kinds ++ closing_kinds (context_view l.context) (map price_view l.rest) ≡ closing_kinds (context_view l.context) (map price_view l.prices)

abbrev pub decreases-loop-rest : goal.decreases-loop-rest
decreases-loop-rest l = length l.rest
