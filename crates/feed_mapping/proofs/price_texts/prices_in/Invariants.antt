use Rattle.std.proofs.Common.{◌≡◌, ◌++◌, length, map}
use Rattle.std.specs.Prelude.{codes}
use Rattle.feed_mapping.specs.Elements.{composites}
use Rattle.feed_mapping.specs.PriceTexts.{price_view, prices_in}
use Rattle.feed_mapping.proofs.price_texts.prices_in.Given as goal

abbrev pub invariant-loop-price : goal.invariant-loop-price
invariant-loop-price l =
    map price_view l.prices.items ++ prices_in l.rest ≡ prices_in l.elements

abbrev pub decreases-loop-price : goal.decreases-loop-price
decreases-loop-price l = length (composites (codes "Price") l.rest)
