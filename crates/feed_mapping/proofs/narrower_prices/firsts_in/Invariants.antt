use Rattle.std.proofs.Common.{◌≡◌, List, [], length, map}
use Rattle.std.specs.Prelude.{fold}
use Rattle.feed_mapping.specs.PriceTexts.{PriceTexts, price_view}
use Rattle.feed_mapping.specs.Prices.{context_view, with_first}
use Rattle.feed_mapping.specs.declared.narrower.First.{First}
use Rattle.feed_mapping.proofs.narrower_prices.firsts_in.Given as goal

abbrev pub invariant-loop-rest : goal.invariant-loop-rest
invariant-loop-rest l =
    fold (λ (firsts : List First) (p : PriceTexts). with_first (context_view l.context) p firsts) l.firsts (map price_view l.rest)
    ≡ fold (λ (firsts : List First) (p : PriceTexts). with_first (context_view l.context) p firsts) [] (map price_view l.prices)

abbrev pub decreases-loop-rest : goal.decreases-loop-rest
decreases-loop-rest l = length l.rest
