use Rattle.std.proofs.Common.{◌≡◌, ◌++◌, map, take}
use Rattle.desk_texts.specs.PriceText.{priced_fields}
use Rattle.desk_texts.proofs.price_text.push_prices.Given as goal

abbrev pub invariant-loop-priced : goal.invariant-loop-priced
invariant-loop-priced l = l.records ≡ l.initial.records ++ map priced_fields (take l.priced-index l.offers)
