-- The choice of a list of offers and that of a longer one, which has others that are not chosen.
use Rattle.std.proofs.Common.{◌≡◌, ℕ, ◌+◌, ◌<◌, ◌≤◌, List, Option, Some, None, ◌⊎◌, inl, inr, ⊎_elim, option_map, slice_get, sym, refl, subst, ap, arith, ◌∙◌}
use Rattle.std.proofs.lemmas.Bool.{cases_lt}
use Rattle.price_rules.specs.BestOffer.{best_offer, offer_of_choice}
use Rattle.price_rules.specs.Choice.{IsCandidate, IsChoice, IsLeast, Pair, Precedes}
use Rattle.price_rules.specs.Chosen.{choice}
use Rattle.price_rules.specs.declared.choice.BestOffer.{BestOffer}
use Rattle.price_rules.specs.declared.choice.Choice.{Choice}
use Rattle.price_rules.specs.declared.offer.Offer.{Offer}
use Rattle.price_rules.specs.declared.offer.PriceQuery.{PriceQuery}
use Rattle.price_rules.specs.declared.precedence.Rule.{Rule}
use Rattle.onix_terms.specs.Options.{◌>>=◌}
use Rattle.price_rules.proofs.Candidates.{choice_exact, same_pair}
use Rattle.price_rules.proofs.Scan.{next_level, precedes_order}

-- the same choice, of the offer at another index
abbrev pub choice_at : (ℕ → ℕ) → Choice → Choice
choice_at to c = record { rule = c.rule; offer_index = to c.offer_index; amount = c.amount }

abbrev pub moved : (ℕ → ℕ) → Pair → Pair
moved to c = (choice_at to c.0, c.1)

-- Each offer of `few` is one of `many`, in the same order. What else `many` has is preceded, or of
-- the same place in the order
pub record IsImage (rules : List Rule) (q : PriceQuery) (few many : List Offer) (to : ℕ → ℕ) : Type 0 where
  pub same : (k : ℕ) (o : Offer) → slice_get few k ≡ Some o → slice_get many (to k) ≡ Some o
  pub rises : (a b : ℕ) → a < b → to a < to b
  pub covers : (e : Pair) → IsCandidate rules many q e
      → ((c : Pair) × IsCandidate rules few q c × (e ≡ moved to c))
      ⊎ ((c : Pair) × IsCandidate rules few q c × (Precedes e (moved to c) → ⊥))

module _ (rules : List Rule) (q : PriceQuery) (few many : List Offer) (to : ℕ → ℕ) (image : IsImage rules q few many to) where
  falls : (a b : ℕ) → to a < to b → a < b
  falls a b h =
      ⊎_elim (λ lt. lt)
      (λ ge. ⊎_elim (λ lt. let r = image.rises b a lt in absurd (omega (arith, h, r))) (λ le. let e : a ≡ b = omega (arith, ge, le) in let r = ap to e in absurd (omega (arith, h, r))) (cases_lt b a))
      (cases_lt a b)

  candidate_moved : (c : Pair) → IsCandidate rules few q c → IsCandidate rules many q (moved to c)
  candidate_moved c h = (h.0, h.1, h.2, (h.3.0, image.same c.0.offer_index c.1 h.3.1, h.3.2))

  precedes_back : (c d : Pair) → Precedes (moved to c) (moved to d) → Precedes c d
  precedes_back c d h = next_level (next_level (next_level (next_level (next_level (falls c.0.offer_index d.0.offer_index))))) h

  not_before : (d : Choice) (h : IsLeast (IsCandidate rules few q) (Some d)) (e : Pair) → Precedes e (moved to (d, h.0))
      → ((c : Pair) × IsCandidate rules few q c × (e ≡ moved to c)) ⊎ ((c : Pair) × IsCandidate rules few q c × (Precedes e (moved to c) → ⊥)) → ⊥
  not_before d h e p (inl r) = h.2 r.0 r.1 (precedes_back r.0 (d, h.0) (subst (λ z. Precedes z (moved to (d, h.0))) r.2 p))
  not_before d h e p (inr r) =
      r.2 (subst (λ z. Precedes e z)
      (same_pair rules many q (moved to (d, h.0)) (moved to r.0) (candidate_moved (d, h.0) h.1) (candidate_moved r.0 r.1)
      (λ before. r.2 (precedes_order.chain e (moved to (d, h.0)) (moved to r.0) p before))
      (λ before. h.2 r.0 r.1 (precedes_back r.0 (d, h.0) before)))
      p)

  least_moved : (d : Option Choice) → IsLeast (IsCandidate rules few q) d → IsLeast (IsCandidate rules many q) (option_map (choice_at to) d)
  least_moved None h = λ e k. ⊎_elim (λ r. h r.0 r.1) (λ r. h r.0 r.1) (image.covers e k)
  least_moved (Some d) h = (h.0, candidate_moved (d, h.0) h.1, λ e k p. not_before d h e p (image.covers e k))

  offer_moved : (d : Option Choice) → IsLeast (IsCandidate rules few q) d → (d >>= offer_of_choice few) ≡ (option_map (choice_at to) d >>= offer_of_choice many)
  offer_moved None h = refl
  offer_moved (Some d) h = rw (h.1.3.1, image.same d.offer_index h.0 h.1.3.1) refl

  -- the best offer is the same
  pub best_moved : best_offer rules q few ≡ best_offer rules q many
  best_moved =
      let least : IsChoice rules few q (choice rules few q) = (choice_exact rules few q (choice rules few q)).1 refl in
      let same = (choice_exact rules many q (option_map (choice_at to) (choice rules few q))).0 (least_moved (choice rules few q) least) in
      offer_moved (choice rules few q) least ∙ ap (λ (d : Option Choice). d >>= offer_of_choice many) same
