use Rattle.std.proofs.Common.{take}
use Rattle.desk_tables.specs.MarketTexts.{ArePriceTexts}
use Rattle.desk_tables.proofs.prices.price_texts.Given as goal

abbrev pub invariant-loop-row : goal.invariant-loop-row
invariant-loop-row l = ArePriceTexts (take l.row-index l.rows) l.texts.items
