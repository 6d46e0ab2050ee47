use Rattle.std.proofs.Common.{pos, ◌+◌, ◌+ℤ◌, ◌++◌, ◌∷◌, []}
use Rattle.price_rules.specs.Price.{IsCurrent}
use Rattle.price_rules.specs.Calendar.{Covers, on_day}
use Rattle.price_rules.proofs.day_by_day.daily_spans.Given as goal

abbrev pub invariant-loop-step : goal.invariant-loop-step
invariant-loop-step l =
    Covers (λ day. IsCurrent l.offer (on_day l.query day)) l.query.from (l.query.from +ℤ pos (l.step + 1)) (l.spans ++ l.open ∷ [])
