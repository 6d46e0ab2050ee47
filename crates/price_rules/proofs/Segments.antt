-- The spans from one break day to the next.
use Rattle.std.proofs.Common.{◌≡◌, ℕ, ◌+◌, ◌<◌, ◌≤◌, ℤ, pos, ◌+ℤ◌, ◌≤ℤ◌, ◌<ℤ◌, List, length, get_or, Option, inl, ⊎_elim, sym, refl, ap, arith, ◌∙◌}
use Rattle.std.specs.List.{Contains}
use Rattle.std.proofs.lemmas.Bool.{cases_lt}
use Rattle.std.proofs.lemmas.List.{get_or_default, get_or_past}
use Rattle.std.proofs.lemmas.List.Elements.{Contains-get_or}
use Rattle.std.proofs.lemmas.Int.{ints}
use Rattle.price_rules.specs.Price.{IsCurrent}
use Rattle.price_rules.specs.Calendar.{on_day}
use Rattle.price_rules.specs.Breaks.{IsBreakDays, IsSteady}
use Rattle.price_rules.proofs.CurrentPrice.{current_exact}
use Rattle.price_rules.specs.declared.offer.Offer.{Offer}
use Rattle.price_rules.specs.declared.offer.CalendarQuery.{CalendarQuery}

not_before : (o : Offer) (from to : ℤ) (days : List ℤ) → IsBreakDays o from to days → (day : ℤ) → Contains days day → from ≤ℤ day
not_before o from to days b day h = ⊎_elim (λ e. omega (arith, ints)) (λ k. omega (arith, ints)) ((b.each day).0 h)

not_after : (o : Offer) (from to : ℤ) (days : List ℤ) → from ≤ℤ to → IsBreakDays o from to days → (day : ℤ) → Contains days day → day ≤ℤ to
not_after o from to days le b day h = ⊎_elim (λ e. omega (arith, ints)) (λ k. k.1) ((b.each day).0 h)

pub some_day : (o : Offer) (from to : ℤ) (days : List ℤ) → IsBreakDays o from to days → 0 < length days
some_day o from to days b = let h = (b.each from).1 (inl refl) in omega (arith, h.1)

ascends : (o : Offer) (from to : ℤ) (days : List ℤ) → IsBreakDays o from to days → (i j : ℕ) (d : ℤ) → i ≤ j → j < length days → get_or days i d ≤ℤ get_or days j d
ascends o from to days b i j d l k =
    ⊎_elim
    (λ lt. let h = b.ascending i j d lt k in omega (arith, ints))
    (λ ge. let e : i ≡ j = omega arith in let h = ap (λ n. get_or days n d) e in omega (arith, ints))
    (cases_lt i j)

pub first_day : (o : Offer) (from to : ℤ) (days : List ℤ) → IsBreakDays o from to days → (d : ℤ) → get_or days 0 d ≡ from
first_day o from to days b d =
    let some = some_day o from to days b in
    let up = not_before o from to days b (get_or days 0 d) (Contains-get_or days 0 d some) in
    let h = (b.each from).1 (inl refl) in
    let le = ascends o from to days b 0 h.0 d (omega arith) h.1 in
    let e = get_or_default days h.0 d from h.1 in
    let is = h.2 in
    omega (arith, ints)

-- after the break day at k the next one is at k + 1, or the range has ended
pub edge_up : (o : Offer) (from to : ℤ) (days : List ℤ) → from ≤ℤ to → IsBreakDays o from to days → (k : ℕ) (d : ℤ) → k < length days → get_or days k d <ℤ get_or days (k + 1) (to +ℤ pos 1)
edge_up o from to days le b k d l =
    let inside = not_after o from to days le b (get_or days k d) (Contains-get_or days k d l) in
    let e = get_or_default days k d (to +ℤ pos 1) l in
    ⊎_elim
    (λ lt. let h = b.ascending k (k + 1) (to +ℤ pos 1) (omega arith) lt in omega (arith, ints))
    (λ ge. let h = get_or_past days (k + 1) (to +ℤ pos 1) ge in omega (arith, ints))
    (cases_lt (k + 1) (length days))

edge_end : (o : Offer) (from to : ℤ) (days : List ℤ) → from ≤ℤ to → IsBreakDays o from to days → (k : ℕ) → get_or days k (to +ℤ pos 1) ≤ℤ (to +ℤ pos 1)
edge_end o from to days le b k =
    ⊎_elim
    (λ lt. let h = not_after o from to days le b (get_or days k (to +ℤ pos 1)) (Contains-get_or days k (to +ℤ pos 1) lt) in omega (arith, ints))
    (λ ge. let h = get_or_past days k (to +ℤ pos 1) ge in omega (arith, ints))
    (cases_lt k (length days))

-- no break day lies between
next_is : (o : Offer) (from to : ℤ) (days : List ℤ) → IsBreakDays o from to days → (k : ℕ) (d other : ℤ) → k < length days → Contains days other → get_or days k d <ℤ other → get_or days (k + 1) (to +ℤ pos 1) ≤ℤ other
next_is o from to days b k d other l h lt =
    let is = h.2 in
    let e = get_or_default days h.0 d other h.1 in
    ⊎_elim
    (λ more. let a = ascends o from to days b (k + 1) h.0 (to +ℤ pos 1) (omega arith) h.1 in let f = get_or_default days h.0 (to +ℤ pos 1) other h.1 in omega (arith, ints))
    (λ back. let a = ascends o from to days b h.0 k d back l in absurd (omega (arith, ints)))
    (cases_lt k h.0)

pub segment_days : (o : Offer) (q : CalendarQuery) (from to : ℤ) (days : List ℤ) → from ≤ℤ to → IsBreakDays o from to days → IsSteady o to days
    → (k : ℕ) (first last : ℤ) (amount : Option ℕ) → k < length days → get_or days k first ≡ first → last +ℤ pos 1 ≡ get_or days (k + 1) (to +ℤ pos 1)
    → IsCurrent o (on_day q first) amount → (day : ℤ) → first ≤ℤ day → day ≤ℤ last → IsCurrent o (on_day q day) amount
segment_days o q from to days le b steady k first last amount l at edge now day up down =
    let end = edge_end o from to days le b (k + 1) in
    (current_exact o (on_day q day) amount).1
    ((current_exact o (on_day q first) amount).0 now
    ∙ sym (steady first day (k, l, at) up (omega (arith, ints))
    (λ other m lt. let n = next_is o from to days b k first other l m (omega (arith, ints)) in omega (arith, ints))
    q))

pub segment_up : (o : Offer) (from to : ℤ) (days : List ℤ) → from ≤ℤ to → IsBreakDays o from to days
    → (k : ℕ) (first last : ℤ) → k < length days → get_or days k first ≡ first → last +ℤ pos 1 ≡ get_or days (k + 1) (to +ℤ pos 1) → first ≤ℤ last
segment_up o from to days le b k first last l at edge = let h = edge_up o from to days le b k first l in omega (arith, ints)
