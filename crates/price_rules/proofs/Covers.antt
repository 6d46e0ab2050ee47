-- Spans that cover days in order.
use Rattle.std.proofs.Common.{◌≡◌, ℕ, ℤ, pos, ◌+ℤ◌, ◌≤ℤ◌, ◌<ℤ◌, List, [], ◌∷◌, ◌++◌, Option, inl, inr, sym, refl, subst, arith, ◌∙◌}
use Rattle.std.proofs.lemmas.Int.{ints, by_lt_z}
use Rattle.price_rules.specs.Calendar.{Differs, Covers}
use Rattle.price_rules.specs.Steps.{IsJoined}
use Rattle.price_rules.specs.declared.calendar.Span.{Span}

differs_same : (s : Span) (xs : List Span) (t u : Span) → t.amount ≡ u.amount → Differs s (xs ++ t ∷ []) → Differs s (xs ++ u ∷ [])
differs_same s [] t u e h = λ k. h (k ∙ sym e)
differs_same s (x ∷ xs) t u e h = h

differs_more : (s : Span) (xs : List Span) (t u : Span) → Differs s (xs ++ t ∷ []) → Differs s ((xs ++ t ∷ []) ++ u ∷ [])
differs_more s [] t u h = h
differs_more s (x ∷ xs) t u h = h

-- the last span goes on, up to the end of the next one
covers_on : (C : ℤ → Option ℕ → Type 0) (first : ℤ) (xs : List Span) (t s : Span) → t.amount ≡ s.amount → s.first ≤ℤ s.last
    → ((day : ℤ) → s.first ≤ℤ day → day ≤ℤ s.last → C day s.amount)
    → Covers C first s.first (xs ++ t ∷ []) → Covers C first (s.last +ℤ pos 1) (xs ++ record t { last = s.last } ∷ [])
covers_on C first [] t s e le days h =
    (h.0, omega (arith, ints), (λ day a b. by_lt_z day s.first (λ lt. h.2 day a (omega (arith, ints))) (λ ge. subst (C day) (sym e) (days day ge b))), tt, refl)
covers_on C first (x ∷ xs) t s e le days h =
    (h.0, h.1, h.2, differs_same x xs t (record t { last = s.last }) refl h.3, covers_on C (x.last +ℤ pos 1) xs t s e le days h.4)

-- the next span comes after the last one
covers_more : (C : ℤ → Option ℕ → Type 0) (first : ℤ) (xs : List Span) (t s : Span) → (t.amount ≡ s.amount → ⊥) → s.first ≤ℤ s.last
    → ((day : ℤ) → s.first ≤ℤ day → day ≤ℤ s.last → C day s.amount)
    → Covers C first s.first (xs ++ t ∷ []) → Covers C first (s.last +ℤ pos 1) ((xs ++ t ∷ []) ++ s ∷ [])
covers_more C first [] t s e le days h = (h.0, h.1, h.2, e, (sym h.4, le, days, tt, refl))
covers_more C first (x ∷ xs) t s e le days h =
    (h.0, h.1, h.2, differs_more x xs t s h.3, covers_more C (x.last +ℤ pos 1) xs t s e le days h.4)

pub covers_joined : (C : ℤ → Option ℕ → Type 0) (first : ℤ) (old new : List Span) (t s u : Span) → IsJoined t s old new u → s.first ≤ℤ s.last
    → ((day : ℤ) → s.first ≤ℤ day → day ≤ℤ s.last → C day s.amount)
    → Covers C first s.first (old ++ t ∷ []) → Covers C first (s.last +ℤ pos 1) (new ++ u ∷ [])
covers_joined C first old new t s u (inl j) le days h =
    let e : old ++ record t { last = s.last } ∷ [] ≡ new ++ u ∷ [] = cc in
    subst (Covers C first (s.last +ℤ pos 1)) e (covers_on C first old t s j.0 le days h)
covers_joined C first old new t s u (inr j) le days h =
    let e : (old ++ t ∷ []) ++ s ∷ [] ≡ new ++ u ∷ [] = cc in
    subst (Covers C first (s.last +ℤ pos 1)) e (covers_more C first old t s j.0 le days h)

pub covers_up : (C : ℤ → Option ℕ → Type 0) (first end : ℤ) (xs : List Span) → Covers C first end xs → first ≤ℤ end
covers_up C first end [] h = omega (arith, ints)
covers_up C first end (x ∷ xs) h = let k = covers_up C (x.last +ℤ pos 1) end xs h.4 in omega (arith, ints)

-- the first amount does not go on after its span
ends_first : (C : ℤ → Option ℕ → Type 0) → ((day : ℤ) (a b : Option ℕ) → C day a → C day b → a ≡ b)
    → (x y : Span) (xs : List Span) (end : ℤ) → x.amount ≡ y.amount → x.first ≡ y.first → x.first ≤ℤ x.last → y.last <ℤ end
    → ((day : ℤ) → y.first ≤ℤ day → day ≤ℤ y.last → C day y.amount)
    → Differs x xs → Covers C (x.last +ℤ pos 1) end xs → y.last ≤ℤ x.last
ends_first C one x y [] end e f le lt days d h = omega (arith, ints)
ends_first C one x y (t ∷ ts) end e f le lt days d h =
    by_lt_z x.last y.last
    (λ less. absurd (d (e ∙ one t.first y.amount t.amount (days t.first (omega (arith, ints)) (omega (arith, ints))) (h.2 t.first (omega (arith, ints)) h.1))))
    (λ ge. ge)

pub covers_unique : (C : ℤ → Option ℕ → Type 0) → ((day : ℤ) (a b : Option ℕ) → C day a → C day b → a ≡ b)
    → (first end : ℤ) (xs ys : List Span) → Covers C first end xs → Covers C first end ys → xs ≡ ys
covers_unique C one first end [] [] h k = refl
covers_unique C one first end [] (y ∷ ys) h k = let up = covers_up C _ end ys k.4 in absurd (omega (arith, ints))
covers_unique C one first end (x ∷ xs) [] h k = let up = covers_up C _ end xs h.4 in absurd (omega (arith, ints))
covers_unique C one first end (x ∷ xs) (y ∷ ys) h k =
    let upx = covers_up C _ end xs h.4 in
    let upy = covers_up C _ end ys k.4 in
    let same_first : x.first ≡ y.first = h.0 ∙ sym k.0 in
    let same_amount : x.amount ≡ y.amount = one x.first x.amount y.amount (h.2 x.first (omega (arith, ints)) h.1) (k.2 x.first (omega (arith, ints)) (omega (arith, ints))) in
    let a = ends_first C one x y xs end same_amount same_first h.1 (omega (arith, ints)) k.2 h.3 h.4 in
    let b = ends_first C one y x ys end (sym same_amount) (sym same_first) k.1 (omega (arith, ints)) h.2 k.3 k.4 in
    let same_last : x.last ≡ y.last = omega (arith, ints) in
    let same : x ≡ y = λ i. record { first = same_first i; last = same_last i; amount = same_amount i } in
    let rest = covers_unique C one (y.last +ℤ pos 1) end xs ys (subst (λ l. Covers C (l +ℤ pos 1) end xs) same_last h.4) k.4 in
    λ i. same i ∷ rest i

-- one day
pub covers_one : (C : ℤ → Option ℕ → Type 0) (day : ℤ) (a : Option ℕ) → C day a → Covers C day (day +ℤ pos 1) (record { first = day; last = day; amount = a } ∷ [])
covers_one C day a h = (refl, omega (arith, ints), (λ d l k. let e : day ≡ d = omega (arith, ints) in subst (λ z. C z a) e h), tt, refl)

-- one span
pub covers_span : (C : ℤ → Option ℕ → Type 0) (first end : ℤ) (s : Span) → s.first ≡ first → s.first ≤ℤ s.last → s.last +ℤ pos 1 ≡ end → ((day : ℤ) → s.first ≤ℤ day → day ≤ℤ s.last → C day s.amount) → Covers C first end (s ∷ [])
covers_span C first end s e le k days = (e, le, days, tt, k)
