use Rattle.std.proofs.Common.{take}
use Rattle.desk_tables.specs.MarketTexts.{AreOfferTexts}
use Rattle.desk_tables.proofs.offers.offer_texts.Given as goal

abbrev pub invariant-loop-row : goal.invariant-loop-row
invariant-loop-row l = AreOfferTexts (take l.row-index l.rows) l.texts.items
