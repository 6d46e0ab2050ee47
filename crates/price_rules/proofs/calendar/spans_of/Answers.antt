use Rattle.std.proofs.Common.{◌≡◌, ℤ, pos, ◌+ℤ◌, ◌++◌, ◌∷◌, [], get_or, refl, subst, sym, ◌∙◌}
use Rattle.std.proofs.lemmas.List.{get_or_default, get_or_past}
use Rattle.price_rules.specs.Price.{IsCurrent}
use Rattle.price_rules.specs.Calendar.{Covers, on_day}
use Rattle.price_rules.proofs.Covers.{covers_joined, covers_span}
use Rattle.price_rules.proofs.Segments.{some_day, first_day, segment_days, segment_up}
use Rattle.price_rules.proofs.calendar.spans_of.Goals as goal

pub loop-k-init : goal.loop-k-init
loop-k-init c =
    let o = c.args.offer.now in
    let q = c.args.query.now in
    let from = c.args.query.now.from in
    let to = c.args.query.now.to in
    let days = c.args.days.now in
    let some = some_day o from to days c.requires.days in
    let first = first_day o from to days c.requires.days from in
    rw c.new-spans.ensures
    (covers_span (λ day. IsCurrent o (on_day q day)) from (get_or days 1 (to +ℤ pos 1)) (record { first = from; last = c.last_of.result; amount = c.amount_on.result })
    refl
    (segment_up o from to days c.requires.range c.requires.days 0 from c.last_of.result some first c.last_of.ensures)
    c.last_of.ensures
    (segment_days o q from to days c.requires.range c.requires.days c.requires.steady 0 from c.last_of.result c.amount_on.result some first c.last_of.ensures c.amount_on.ensures))

pub loop-k-preserved : goal.loop-k-preserved
loop-k-preserved c =
    let o = c.args.offer.now in
    let q = c.args.query.now in
    let from = c.args.query.now.from in
    let to = c.args.query.now.to in
    let days = c.args.days.now in
    let C = λ (day : ℤ). IsCurrent o (on_day q day) in
    let k = c.loop-k.k in
    let first = c.index-days-k.result in
    let last = c.last_of-last.result in
    let amount = c.amount_on-amount.result in
    let at : get_or days k first ≡ first = sym c.index-days-k.is in
    let here : get_or days k (to +ℤ pos 1) ≡ first = get_or_default days k (to +ℤ pos 1) first c.loop-k-test.true ∙ at in
    subst (λ z. Covers C from z (c.join.new.spans ++ c.in_ok-open.open ∷ [])) c.last_of-last.ensures
    (covers_joined C from c.loop-k.spans c.join.new.spans c.loop-k.open (record { first = first; last = last; amount = amount }) c.in_ok-open.open
    c.in_ok-open.ensures
    (segment_up o from to days c.requires.range c.requires.days k first last c.loop-k-test.true at c.last_of-last.ensures)
    (segment_days o q from to days c.requires.range c.requires.days c.requires.steady k first last amount c.loop-k-test.true at c.last_of-last.ensures c.amount_on-amount.ensures)
    (subst (λ z. Covers C from z (c.loop-k.spans ++ c.loop-k.open ∷ [])) here c.loop-k.invariant))

pub returns : goal.returns
returns c =
    let C = λ (day : ℤ). IsCurrent c.args.offer.now (on_day c.args.query.now day) in
    let e : get_or c.args.days.now c.loop-k.k (c.args.query.now.to +ℤ pos 1) ≡ c.args.query.now.to +ℤ pos 1 = get_or_past c.args.days.now c.loop-k.k (c.args.query.now.to +ℤ pos 1) c.loop-k-test.false in
    rw c.in_ok-push.ensures.ok (subst (λ z. Covers C c.args.query.now.from z (c.loop-k.spans ++ c.loop-k.open ∷ [])) e c.loop-k.invariant)
