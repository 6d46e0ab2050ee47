-- The current price: one amount, and what is computed.
use Rattle.std.proofs.Common.{◌≡◌, ◌↔◌, ℕ, ◌<◌, ◌≤◌, ℤ, List, Option, Some, None, nat_lt, nat_le, ◌==◌, ◌⊎◌, inl, inr, option_map, sym, refl, subst, ap, arith, ◌∙◌}
use Rattle.std.specs.Bool.{Decides}
use Rattle.std.specs.List.{Contains}
use Rattle.std.specs.Option.{option_eq}
use Rattle.std.specs.Ordering.{int_eq}
use Rattle.std.specs.Str.{bytes_eq}
use Rattle.std.proofs.lemmas.Bool.Decides.{Decides-and, Decides-or, Decides-not, Decides-ltb, Decides-eqb, Decides-int_eq, Decides-by_or, nat_tests}
use Rattle.std.proofs.lemmas.Int.{ints, by_lt_z}
use Rattle.std.proofs.lemmas.List.Elements.{Decides-contains}
use Rattle.std.proofs.lemmas.Slice.Eq.{bytes_eq-Decides}
use Rattle.onix_terms.specs.Plain.{decides-same, option-decides}
use Rattle.onix_terms.specs.Territory.{IsIn}
use Rattle.onix_terms.specs.declared.territory.Territory.{Territory}
use Rattle.onix_records.specs.declared.parts.Price.{Price}
use Rattle.price_rules.specs.Order.{IsBest, IsGreater, IsLess}
use Rattle.price_rules.specs.Price.{HasBegun, HasNotEnded, Holds, IsCurrent, IsLater, Outranks}
use Rattle.price_rules.specs.Current.{current, has_begun, has_code, has_not_ended, holds, is_in, is_later, outranks}
use Rattle.price_rules.specs.declared.offer.Offer.{Offer}
use Rattle.price_rules.specs.declared.offer.PriceQuery.{PriceQuery}
use Rattle.price_rules.proofs.Best.{Compares, IsOrder, best_alike, best_is, by_order, greater_compares, greater_order, less_compares, less_order, not_none, then_compares, then_decides, then_order}

later_never : (a : Option ℤ) → IsLater a a → ⊥
later_never None h = h
later_never (Some a) h = grind (arith, ints)

pub later_apart : (a b : Option ℤ) → a ≡ b → IsLater a b → ⊥
later_apart a b e h = later_never a (subst (IsLater a) (sym e) h)

later_chain : (a b c : Option ℤ) → IsLater a b → IsLater b c → IsLater a c
later_chain None b c h k = h
later_chain (Some a) None c h k = absurd k
later_chain (Some a) (Some b) None h k = tt
later_chain (Some a) (Some b) (Some c) h k = omega (arith, ints)

later_order : IsOrder IsLater
later_order = record { never = later_never; chain = later_chain }

pub outranks_order : IsOrder Outranks
outranks_order =
    then_order _ IsGreater _ greater_order
    (then_order _ IsLater _ later_order (by_order (λ p. p.amount) IsLess less_order))

later_some : (a b : ℤ) → IsLater (Some a) (Some b) ⊎ ((Some a ≡ Some b) ⊎ IsLater (Some b) (Some a))
later_some a b = by_lt_z a b (λ lt. inr (inr lt)) (λ ge. by_lt_z b a (λ lt. inl lt) (λ le. inr (inl (ap (λ z. Some z) (omega (arith, ints))))))

pub later_compares : Compares (λ x y. x ≡ y) IsLater
later_compares None None = inr (inl refl)
later_compares None (Some b) = inr (inr tt)
later_compares (Some a) None = inl tt
later_compares (Some a) (Some b) = later_some a b

pub current_unique : (o : Offer) (q : PriceQuery) (a b : Option ℕ) → IsCurrent o q a → IsCurrent o q b → a ≡ b
current_unique o q None None h k = refl
current_unique o q None (Some b) h k = absurd (not_none (Holds o.market q) Outranks o.prices k.0 k.2 h)
current_unique o q (Some a) None h k = absurd (not_none (Holds o.market q) Outranks o.prices h.0 h.2 k)
current_unique o q (Some a) (Some b) h k =
    let alike = then_compares (λ p. p.minimum) IsGreater _ (λ p r. p.amount ≡ r.amount) greater_compares (then_compares (λ p. p.from) IsLater (λ p r. p.amount < r.amount) (λ p r. p.amount ≡ r.amount) later_compares (λ p r. less_compares p.amount r.amount)) in
    let e : h.0.amount ≡ k.0.amount = best_alike (Holds o.market q) Outranks (λ p r. p.amount ≡ r.amount) alike o.prices h.0 k.0 h.2 k.2 in
    ap (λ n. Some n) (sym h.1 ∙ e ∙ k.1)

-- each test says what it is a test of
pub has_code_decides : (code : List ℕ) (codes : List (List ℕ)) → Decides (has_code code codes) (Contains codes code)
has_code_decides code codes =
    Decides-contains codes code _
    (Decides-by_or (bytes_eq code) (λ x. x ≡ code) (has_code code) (λ x. decides-same sym sym (bytes_eq-Decides code x)) refl (λ _ _. refl) codes)

is_in_decides : (country : List ℕ) (t : Territory) → Decides (is_in country t) (IsIn country t)
is_in_decides country t =
    Decides-and _ _
    (Decides-not _ (has_code_decides country t.excluded))
    (Decides-or _ _ (λ e. e, λ e. e) (has_code_decides country t.included))

has_begun_decides : (from : Option ℤ) (day : ℤ) → Decides (has_begun from day) (HasBegun from day)
has_begun_decides None day = (λ _. tt, λ _. refl)
has_begun_decides (Some from) day = (λ e. grind (arith, ints), λ h. grind (arith, ints))

has_not_ended_decides : (until : Option ℤ) (day : ℤ) → Decides (has_not_ended until day) (HasNotEnded until day)
has_not_ended_decides None day = (λ _. tt, λ _. refl)
has_not_ended_decides (Some until) day = (λ e. grind (arith, ints), λ h. grind (arith, ints))

is_later_decides : (a b : Option ℤ) → Decides (is_later a b) (IsLater a b)
is_later_decides None b = (λ e. cc, λ h. absurd h)
is_later_decides (Some a) None = (λ _. tt, λ _. refl)
is_later_decides (Some a) (Some b) = (λ e. grind (arith, ints), λ h. grind (arith, ints))

pub nat_le_decides : (a b : ℕ) → Decides (nat_le a b) (a ≤ b)
nat_le_decides a b = (λ e. grind (arith, nat_tests), λ h. grind (arith, nat_tests))

holds_decides : (market : Territory) (q : PriceQuery) (p : Price) → Decides (holds market q p) (Holds market q p)
holds_decides market q p =
    decides-same
    (λ h. record { same_type = h.0.0.0; same_currency = h.0.0.1; in_market = h.0.1.0; in_territory = h.0.1.1; begun = h.1.0.0; not_ended = h.1.0.1; enough = h.1.1 })
    (λ h. (((h.same_type, h.same_currency), (h.in_market, h.in_territory)), ((h.begun, h.not_ended), h.enough)))
    (Decides-and _ _
    (Decides-and _ _
    (Decides-and _ _ (bytes_eq-Decides p.price_type q.price_type) (bytes_eq-Decides p.currency q.currency))
    (Decides-and _ _ (is_in_decides q.country market) (is_in_decides q.country p.territory)))
    (Decides-and _ _
    (Decides-and _ _ (has_begun_decides p.from q.day) (has_not_ended_decides p.until q.day))
    (nat_le_decides p.minimum q.quantity)))

outranks_decides : (p r : Price) → Decides (outranks p r) (Outranks p r)
outranks_decides =
    then_decides (λ p. p.minimum) IsGreater _ (λ a b. nat_lt b a) ◌==◌ _ (λ a b. Decides-ltb b a) Decides-eqb
    (then_decides (λ p. p.from) IsLater _ is_later (option_eq int_eq) (λ p r. nat_lt p.amount r.amount) is_later_decides (option-decides Decides-int_eq)
    (λ p r. Decides-ltb p.amount r.amount))

pub of_best : (o : Offer) (q : PriceQuery) (best : Option Price) → IsBest (Holds o.market q) Outranks o.prices best → IsCurrent o q (option_map (λ p. p.amount) best)
of_best o q None h = h
of_best o q (Some p) h = (p, refl, h)

-- what is computed is the current price
pub current_is : (o : Offer) (q : PriceQuery) → IsCurrent o q (current o q)
unfolding current
current_is o q =
    of_best o q _ (best_is (Holds o.market q) Outranks (holds o.market q) outranks outranks_order (holds_decides o.market q) outranks_decides o.prices)

-- and nothing else is
pub current_exact : (o : Offer) (q : PriceQuery) (amount : Option ℕ) → IsCurrent o q amount ↔ (amount ≡ current o q)
current_exact o q amount =
    (λ h. current_unique o q amount (current o q) h (current_is o q), λ e. subst (IsCurrent o q) (sym e) (current_is o q))
