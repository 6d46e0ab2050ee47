use Rattle.std.proofs.Common.{◌≡◌, length, map}
use Rattle.std.specs.Prelude.{not}
use Rattle.std.specs.List.{list_any}
use Rattle.feed_mapping.specs.PriceTexts.{price_view}
use Rattle.feed_mapping.specs.Prices.{is_of_countries}
use Rattle.feed_mapping.proofs.narrower_prices.has_world.Given as goal

abbrev pub invariant-loop-rest : goal.invariant-loop-rest
invariant-loop-rest l =
    list_any (λ p. not (is_of_countries p.area)) (map price_view l.rest) ≡ list_any (λ p. not (is_of_countries p.area)) (map price_view l.prices)

abbrev pub decreases-loop-rest : goal.decreases-loop-rest
decreases-loop-rest l = length l.rest
