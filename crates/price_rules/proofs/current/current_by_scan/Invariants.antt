use Rattle.std.proofs.Common.{take}
use Rattle.std.specs.Option.{option_copied}
use Rattle.price_rules.specs.Price.{Holds, Outranks}
use Rattle.price_rules.specs.Order.{IsBest}
use Rattle.price_rules.proofs.current.current_by_scan.Given as goal

abbrev pub invariant-loop-price : goal.invariant-loop-price
invariant-loop-price l =
    IsBest (Holds l.offer.market l.query) Outranks (take l.price-index l.price-items) (option_copied l.best)
