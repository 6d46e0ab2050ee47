use Rattle.std.proofs.Common.{◌≡◌, ◌++◌, take}
use Rattle.std.specs.List.{flat_map}
use Rattle.desk_texts.specs.PriceText.{dated_records}
use Rattle.desk_texts.proofs.price_text.push_calendars.Given as goal

abbrev pub invariant-loop-calendar : goal.invariant-loop-calendar
invariant-loop-calendar l = l.records ≡ l.initial.records ++ flat_map dated_records (take l.calendar-index l.offers)
