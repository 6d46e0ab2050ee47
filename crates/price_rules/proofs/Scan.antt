-- The scan over the offers for the choice of one rule.
use Rattle.std.proofs.Common.{◌≡◌, ℕ, ◌+◌, ◌<◌, ◌≤◌, List, length, Option, Some, None, ◌⊎◌, inl, inr, ⊎_elim, slice_get, sym, refl, subst, ap, arith, ◌∙◌}
use Rattle.std.proofs.lemmas.Bool.{cases_lt}
use Rattle.std.proofs.lemmas.Option.{slice_get_within}
use Rattle.price_rules.specs.Order.{ByThen, IsLess}
use Rattle.price_rules.specs.Price.{IsCurrent}
use Rattle.price_rules.specs.Choice.{Fits, Pair, IsRuleCandidate, IsCandidate, IsTextLess, IsCheaper, Precedes, IsLeast}
use Rattle.price_rules.specs.Steps.{Undercuts}
use Rattle.price_rules.specs.declared.offer.Offer.{Offer}
use Rattle.price_rules.specs.declared.offer.PriceQuery.{PriceQuery}
use Rattle.price_rules.specs.declared.precedence.Rule.{Rule}
use Rattle.price_rules.specs.declared.choice.Choice.{Choice}
use Rattle.price_rules.proofs.Best.{IsOrder, then_order, by_order, less_order}
use Rattle.price_rules.proofs.CurrentPrice.{current_unique}
use Rattle.price_rules.proofs.Texts.{text_order}

abbrev pub IsSeen : Rule → ℕ → List Offer → PriceQuery → ℕ → Pair → Type 0
IsSeen rule number offers q n c = IsRuleCandidate rule number offers q c × (c.0.offer_index < n)

pub precedes_order : IsOrder Precedes
precedes_order =
    then_order (λ c. c.0.rule) IsLess _ less_order
    (then_order (λ c. c.0.amount) IsLess _ less_order
    (then_order (λ c. c.1.series) IsTextLess _ text_order
    (then_order (λ c. c.1.reference) IsTextLess _ text_order
    (then_order (λ c. c.1.place) IsLess _ less_order (by_order (λ c. c.0.offer_index) IsLess less_order)))))

pub next_level : {L E N M : Type 0} → (N → M) → L ⊎ (E × N) → L ⊎ (E × M)
next_level f (inl l) = inl l
next_level f (inr p) = inr (p.0, f p.1)

pub cheaper_precedes : (c d : Pair) → c.0.rule ≡ d.0.rule → IsCheaper (c.0.amount, c.1) (d.0.amount, d.1) → Precedes c d
cheaper_precedes c d e h = inr (e, next_level (next_level (next_level inl)) h)

only_place : (c d : Pair) → (c.0.offer_index < d.0.offer_index → ⊥) → ByThen (λ x. x.1.place) IsLess (λ x y. x.0.offer_index < y.0.offer_index) c d → c.1.place < d.1.place
only_place c d f (inl h) = h
only_place c d f (inr h) = absurd (f h.1)

abbrev AfterRule : Pair → Pair → Type 0
AfterRule =
    ByThen (λ c. c.0.amount) IsLess
    (ByThen (λ c. c.1.series) IsTextLess
    (ByThen (λ c. c.1.reference) IsTextLess
    (ByThen (λ c. c.1.place) IsLess (λ c d. c.0.offer_index < d.0.offer_index))))

not_first : (c d : Pair) (Next : Pair → Pair → Type 0) → c.0.rule ≡ d.0.rule → ByThen (λ x. x.0.rule) IsLess Next c d → Next c d
not_first c d Next e (inl h) = absurd (omega arith)
not_first c d Next e (inr h) = h.1

pub precedes_cheaper : (c d : Pair) → c.0.rule ≡ d.0.rule → (c.0.offer_index < d.0.offer_index → ⊥) → Precedes c d → IsCheaper (c.0.amount, c.1) (d.0.amount, d.1)
precedes_cheaper c d e f h = next_level (next_level (next_level (only_place c d f))) (not_first c d AfterRule e h)

pub same_some : {X : Type 0} (x y : X) → Some x ≡ Some y → x ≡ y
same_some x y e = cc

-- the pair at the last index
here_or_before : (rule : Rule) (number : ℕ) (offers : List Offer) (q : PriceQuery) (n : ℕ) (c : Pair) → IsSeen rule number offers q (n + 1) c → IsSeen rule number offers q n c ⊎ (c.0.offer_index ≡ n)
here_or_before rule number offers q n c h = ⊎_elim (λ lt. inl (h.0, lt)) (λ ge. inr (omega (arith, h.1))) (cases_lt c.0.offer_index n)

offer_here : (rule : Rule) (number : ℕ) (offers : List Offer) (q : PriceQuery) (n : ℕ) (offer : Offer) (c : Pair) → slice_get offers n ≡ Some offer → IsRuleCandidate rule number offers q c → c.0.offer_index ≡ n → c.1 ≡ offer
offer_here rule number offers q n offer c at h e = same_some c.1 offer (sym h.1 ∙ ap (slice_get offers) e ∙ at)

pub least_same : (rule : Rule) (number : ℕ) (offers : List Offer) (q : PriceQuery) (n : ℕ) (offer : Offer) (best : Option Choice)
    → slice_get offers n ≡ Some offer → ((amount : ℕ) → Fits rule offer q amount → ⊥)
    → IsLeast (IsSeen rule number offers q n) best → IsLeast (IsSeen rule number offers q (n + 1)) best
least_same rule number offers q n offer None at never h = λ c s.
    ⊎_elim (h c) (λ e. never c.0.amount (subst (λ o. Fits rule o q c.0.amount) (offer_here rule number offers q n offer c at s.0 e) s.0.2)) (here_or_before rule number offers q n c s)
least_same rule number offers q n offer (Some b) at never h = (
  h.0,
  (h.1.0, omega (arith, h.1.1)),
  λ c s p.
      ⊎_elim (λ k. h.2 c k p) (λ e. never c.0.amount (subst (λ o. Fits rule o q c.0.amount) (offer_here rule number offers q n offer c at s.0 e) s.0.2)) (here_or_before rule number offers q n c s),
)

-- the pair at the last index is the new one
is_new : (rule : Rule) (number : ℕ) (offers : List Offer) (q : PriceQuery) (n amount : ℕ) (offer : Offer) (c : Pair) → slice_get offers n ≡ Some offer → Fits rule offer q amount
    → IsRuleCandidate rule number offers q c → c.0.offer_index ≡ n → ◌≡◌ {A = Pair} c (record { rule = number; offer_index = n; amount = amount }, offer)
is_new rule number offers q n amount offer c at fits h e =
    let o = offer_here rule number offers q n offer c at h e in
    let a = same_some c.0.amount amount (current_unique offer q (Some c.0.amount) (Some amount) (subst (λ p. IsCurrent p q (Some c.0.amount)) o h.2.1) fits.1) in
    λ i. (record { rule = h.0 i; offer_index = e i; amount = a i }, o i)

pub least_new : (rule : Rule) (number : ℕ) (offers : List Offer) (q : PriceQuery) (n amount : ℕ) (offer : Offer) (best : Option Choice)
    → slice_get offers n ≡ Some offer → Fits rule offer q amount → Undercuts best offers amount offer
    → IsLeast (IsSeen rule number offers q n) best → IsLeast (IsSeen rule number offers q (n + 1)) (Some (record { rule = number; offer_index = n; amount = amount }))
least_new rule number offers q n amount offer None at fits u h =
    let x : Pair = (record { rule = number; offer_index = n; amount = amount }, offer) in (
      offer,
      ((refl, at, fits), omega arith),
      λ c s p.
          ⊎_elim (h c) (λ e. precedes_order.never x (subst (λ z. Precedes z x) (is_new rule number offers q n amount offer c at fits s.0 e) p)) (here_or_before rule number offers q n c s),
    )
least_new rule number offers q n amount offer (Some b) at fits u h =
    let x : Pair = (record { rule = number; offer_index = n; amount = amount }, offer) in
    let same = same_some u.0 h.0 (sym u.1 ∙ h.1.0.1) in
    let first = cheaper_precedes x (b, h.0) (sym h.1.0.0) (subst (λ o. IsCheaper (amount, offer) (b.amount, o)) same u.2) in (
      offer,
      ((refl, at, fits), omega arith),
      λ c s p.
          ⊎_elim (λ k. h.2 c k (precedes_order.chain c x (b, h.0) p first)) (λ e. precedes_order.never x (subst (λ z. Precedes z x) (is_new rule number offers q n amount offer c at fits s.0 e) p)) (here_or_before rule number offers q n c s),
    )

pub least_old : (rule : Rule) (number : ℕ) (offers : List Offer) (q : PriceQuery) (n amount : ℕ) (offer : Offer) (best : Option Choice)
    → slice_get offers n ≡ Some offer → Fits rule offer q amount → (Undercuts best offers amount offer → ⊥)
    → IsLeast (IsSeen rule number offers q n) best → IsLeast (IsSeen rule number offers q (n + 1)) best
least_old rule number offers q n amount offer None at fits u h = absurd (u tt)
least_old rule number offers q n amount offer (Some b) at fits u h =
    let x : Pair = (record { rule = number; offer_index = n; amount = amount }, offer) in (
      h.0,
      (h.1.0, omega (arith, h.1.1)),
      λ c s p.
          ⊎_elim (λ k. h.2 c k p)
          (λ e. u (h.0, h.1.0.1, precedes_cheaper x (b, h.0) (sym h.1.0.0) (λ lt. absurd (omega (arith, h.1.1))) (subst (λ z. Precedes z (b, h.0)) (is_new rule number offers q n amount offer c at fits s.0 e) p)))
          (here_or_before rule number offers q n c s),
    )

-- a scan of all offers
pub least_all : (rule : Rule) (number : ℕ) (offers : List Offer) (q : PriceQuery) (n : ℕ) (best : Option Choice) → length offers ≤ n
    → IsLeast (IsSeen rule number offers q n) best → IsLeast (IsRuleCandidate rule number offers q) best
least_all rule number offers q n None le h = λ c s. let k = slice_get_within offers c.0.offer_index c.1 s.1 in h c (s, omega arith)
least_all rule number offers q n (Some b) le h =
    (h.0, h.1.0, λ c s p. let k = slice_get_within offers c.0.offer_index c.1 s.1 in h.2 c (s, omega arith) p)

-- no rule up to the index k has a candidate
abbrev pub IsPast : List Rule → List Offer → PriceQuery → ℕ → Type 0
IsPast rules offers q k = (c : Pair) → IsCandidate rules offers q c → k < c.0.rule

same_rule : (rules : List Rule) (k j : ℕ) (r s : Rule) → slice_get rules k ≡ Some r → slice_get rules j ≡ Some s → j ≡ k → s ≡ r
same_rule rules k j r s a b e = same_some s r (sym b ∙ ap (slice_get rules) e ∙ a)

pub more_past : (rules : List Rule) (offers : List Offer) (q : PriceQuery) (k : ℕ) (rule : Rule) → slice_get rules k ≡ Some rule
    → IsPast rules offers q k → IsLeast (IsRuleCandidate rule (k + 1) offers q) None → IsPast rules offers q (k + 1)
more_past rules offers q k rule at past none c h =
    let up = past c h in
    let e = h.3.0 in
    ⊎_elim (λ lt. lt)
    (λ ge. let j : h.1 ≡ k = omega arith in
    let r = same_rule rules k h.1 rule h.0 at h.2 j in
    absurd (none c (subst (λ n. IsRuleCandidate rule (n + 1) offers q c) j (subst (λ z. IsRuleCandidate z (h.1 + 1) offers q c) r h.3))))
    (cases_lt (k + 1) c.0.rule)

pub choice_found : (rules : List Rule) (offers : List Offer) (q : PriceQuery) (k : ℕ) (rule : Rule) (choice : Choice) → slice_get rules k ≡ Some rule
    → IsPast rules offers q k → IsLeast (IsRuleCandidate rule (k + 1) offers q) (Some choice) → IsLeast (IsCandidate rules offers q) (Some choice)
choice_found rules offers q k rule choice at past h = (
  h.0,
  (rule, k, at, h.1),
  λ c s p.
      let up = past c s in
      let e = s.3.0 in
      let mine = h.1.0 in
      ⊎_elim
      (λ lt. ⊎_elim (λ less. absurd (omega arith)) (λ same. absurd (omega (arith, same.0))) p)
      (λ ge. let j : s.1 ≡ k = omega arith in
      let r = same_rule rules k s.1 rule s.0 at s.2 j in
      h.2 c (subst (λ n. IsRuleCandidate rule (n + 1) offers q c) j (subst (λ z. IsRuleCandidate z (s.1 + 1) offers q c) r s.3)) p)
      (cases_lt (k + 1) c.0.rule),
)

pub choice_none : (rules : List Rule) (offers : List Offer) (q : PriceQuery) (k : ℕ) → length rules ≤ k → IsPast rules offers q k → IsLeast (IsCandidate rules offers q) None
choice_none rules offers q k le past c h =
    let up = past c h in
    let e = h.3.0 in
    let inside = slice_get_within rules h.1 h.0 h.2 in
    omega arith
