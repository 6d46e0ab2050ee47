use Rattle.std.proofs.Common.{pos, ◌+ℤ◌, ◌++◌, ◌∷◌, [], get_or}
use Rattle.price_rules.specs.Price.{IsCurrent}
use Rattle.price_rules.specs.Calendar.{Covers, on_day}
use Rattle.price_rules.proofs.calendar.spans_of.Given as goal

abbrev pub invariant-loop-k : goal.invariant-loop-k
invariant-loop-k l =
    Covers (λ day. IsCurrent l.offer (on_day l.query day)) l.query.from (get_or l.days l.k (l.query.to +ℤ pos 1)) (l.spans ++ l.open ∷ [])
