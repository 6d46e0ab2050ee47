use Rattle.std.proofs.Common.{◌≡◌, ℤ, pos, ◌+◌, ◌+ℤ◌, ◌++◌, ◌∷◌, [], subst, sym, arith}
use Rattle.std.proofs.lemmas.Int.{ints}
use Rattle.price_rules.specs.Price.{IsCurrent}
use Rattle.price_rules.specs.Calendar.{Covers, on_day}
use Rattle.price_rules.proofs.Covers.{covers_joined, covers_one}
use Rattle.price_rules.proofs.day_by_day.daily_spans.Goals as goal

pub loop-step-init : goal.loop-step-init
loop-step-init c =
    rw c.new-spans.ensures
    (covers_one (λ day. IsCurrent c.args.offer.now (on_day c.args.query.now day)) c.args.query.now.from c.amount_on.result c.amount_on.ensures)

pub after-day-requires : goal.after-day-requires
after-day-requires c = (omega (arith, ints), omega (arith, ints))

pub loop-step-preserved : goal.loop-step-preserved
loop-step-preserved c =
    let C = λ (day : ℤ). IsCurrent c.args.offer.now (on_day c.args.query.now day) in
    let day = c.after-day.result in
    let amount = c.amount_on-amount.result in
    let e : day +ℤ pos 1 ≡ c.args.query.now.from +ℤ pos (c.loop-step.step + 1 + 1) = omega (arith, ints) in
    subst (λ z. Covers C c.args.query.now.from z (c.join.new.spans ++ c.in_ok-open.open ∷ [])) e
    (covers_joined C c.args.query.now.from c.loop-step.spans c.join.new.spans c.loop-step.open (record { first = day; last = day; amount = amount }) c.in_ok-open.open
    c.in_ok-open.ensures (omega (arith, ints))
    (λ d a b. let s : day ≡ d = omega (arith, ints) in subst (λ z. C z amount) s c.amount_on-amount.ensures)
    (subst (λ z. Covers C c.args.query.now.from z (c.loop-step.spans ++ c.loop-step.open ∷ [])) (sym c.after-day.ensures) c.loop-step.invariant))

pub returns : goal.returns
returns c =
    let C = λ (day : ℤ). IsCurrent c.args.offer.now (on_day c.args.query.now day) in
    let e : c.args.query.now.from +ℤ pos (c.loop-step.step + 1) ≡ c.args.query.now.to +ℤ pos 1 = omega (arith, ints) in
    rw c.in_ok-push.ensures.ok (subst (λ z. Covers C c.args.query.now.from z (c.loop-step.spans ++ c.loop-step.open ∷ [])) e c.loop-step.invariant)
