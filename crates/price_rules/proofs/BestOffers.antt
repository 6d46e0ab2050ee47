-- The best offer of the best of some offers and of further ones is the best of all.
use Rattle.std.proofs.Common.{◌≡◌, ℕ, zero, suc, ◌+◌, ◌-◌, ◌<◌, ◌≤◌, List, [], ◌∷◌, ◌++◌, length, Option, Some, None, ◌⊎◌, inl, inr, ⊎_elim, slice_get, append_assoc, sym, refl, subst, ap, arith, ◌∙◌}
use Rattle.std.proofs.lemmas.Bool.{cases_lt}
use Rattle.std.proofs.lemmas.List.{append-nil}
use Rattle.std.proofs.lemmas.Option.{slice_get_within}
use Rattle.price_rules.specs.BestOffer.{alone, best_offer, offer_of_choice}
use Rattle.price_rules.specs.Choice.{IsCandidate, IsChoice, IsLeast, Pair, Precedes}
use Rattle.price_rules.specs.Chosen.{choice}
use Rattle.price_rules.specs.declared.choice.BestOffer.{BestOffer}
use Rattle.price_rules.specs.declared.choice.Choice.{Choice}
use Rattle.price_rules.specs.declared.offer.Offer.{Offer}
use Rattle.price_rules.specs.declared.offer.PriceQuery.{PriceQuery}
use Rattle.price_rules.specs.declared.precedence.Rule.{Rule}
use Rattle.onix_terms.specs.Options.{◌>>=◌}
use Rattle.price_rules.proofs.Candidates.{choice_exact}
use Rattle.price_rules.proofs.Images.{IsImage, best_moved, moved}
use Rattle.price_rules.proofs.Scan.{precedes_order}

-- ---- an item of a list that is followed by another

get_left : {X : Type 0} (xs ys : List X) (k : ℕ) → k < length xs → slice_get (xs ++ ys) k ≡ slice_get xs k
get_left [] ys k h = absurd (omega (arith, h))
get_left (x ∷ xs) ys zero h = refl
get_left (x ∷ xs) ys (suc k) h = get_left xs ys k (omega (arith, h))

get_right : {X : Type 0} (xs ys : List X) (k : ℕ) → slice_get (xs ++ ys) (length xs + k) ≡ slice_get ys k
get_right [] ys k = let e : 0 + k ≡ k = omega arith in ap (slice_get ys) e
get_right (x ∷ xs) ys k = let e : suc (length xs) + k ≡ suc (length xs + k) = omega arith in ap (slice_get (x ∷ xs ++ ys)) e ∙ get_right xs ys k

module _ (rules : List Rule) (q : PriceQuery) (xs ys : List Offer) where
  -- ---- a candidate of two lists is one of the first or of the second

  in_first : (e : Pair) → IsCandidate rules (xs ++ ys) q e → e.0.offer_index < length xs → IsCandidate rules xs q e
  in_first e k low = (k.0, k.1, k.2, (k.3.0, sym (get_left xs ys e.0.offer_index low) ∙ k.3.1, k.3.2))

  -- the same pair, of the item at another index of the second
  abbrev behind : Pair → ℕ → Pair
  behind e i = (record { rule = e.0.rule; offer_index = i; amount = e.0.amount }, e.1)

  back : (e : Pair) (i : ℕ) → e.0.offer_index ≡ i → e ≡ behind e i
  back e i same = λ j. (record { rule = e.0.rule; offer_index = same j; amount = e.0.amount }, e.1)

  in_second : (e : Pair) → IsCandidate rules (xs ++ ys) q e → length xs ≤ e.0.offer_index → slice_get ys (e.0.offer_index - length xs) ≡ Some e.1
  in_second e k high =
      let place : length xs + (e.0.offer_index - length xs) ≡ e.0.offer_index = omega (arith, high) in
      sym (get_right xs ys (e.0.offer_index - length xs)) ∙ ap (slice_get (xs ++ ys)) place ∙ k.3.1

  -- ---- if no offer of the first is taken

  abbrev to_second : ℕ → ℕ
  to_second k = length xs + k

  none_image : IsLeast (IsCandidate rules xs q) None → IsImage rules q ys (xs ++ ys) to_second
  none_image none = record {
    same = λ k o h. get_right xs ys k ∙ h;
    rises = λ a b h. omega (arith, h);
    covers = λ e k. ⊎_elim
        (λ low. absurd (none e (in_first e k low)))
        (λ high. inl (behind e (e.0.offer_index - length xs), (k.0, k.1, k.2, (k.3.0, in_second e k high, k.3.2)), back e (length xs + (e.0.offer_index - length xs)) (omega (arith, high))))
        (cases_lt e.0.offer_index (length xs));
  }

  -- ---- if one is

  abbrev to_all : ℕ → ℕ → ℕ
  to_all first zero = first
  to_all first (suc k) = length xs + k

  to_all_same : (first : ℕ) (o : Offer) → slice_get xs first ≡ Some o → (k : ℕ) (p : Offer) → slice_get (o ∷ ys) k ≡ Some p → slice_get (xs ++ ys) (to_all first k) ≡ Some p
  to_all_same first o at zero p h = get_left xs ys first (slice_get_within xs first o at) ∙ at ∙ h
  to_all_same first o at (suc k) p h = get_right xs ys k ∙ h

  to_all_rises : (first : ℕ) → first < length xs → (a b : ℕ) → a < b → to_all first a < to_all first b
  to_all_rises first low a zero h = absurd (omega (arith, h))
  to_all_rises first low zero (suc b) h = omega (arith, low)
  to_all_rises first low (suc a) (suc b) h = omega (arith, h)

  one_image : (d : Choice) (h : IsLeast (IsCandidate rules xs q) (Some d)) → IsImage rules q (h.0 ∷ ys) (xs ++ ys) (to_all d.offer_index)
  one_image d h =
      let at : slice_get xs d.offer_index ≡ Some h.0 = h.1.3.1 in
      record {
        same = to_all_same d.offer_index h.0 at;
        rises = to_all_rises d.offer_index (slice_get_within xs d.offer_index h.0 at);
        covers = λ e k. ⊎_elim
            (λ low. inr (behind (d, h.0) 0, (h.1.0, h.1.1, h.1.2, (h.1.3.0, refl, h.1.3.2)), h.2 e (in_first e k low)))
            (λ high. inl (behind e (suc (e.0.offer_index - length xs)), (k.0, k.1, k.2, (k.3.0, in_second e k high, k.3.2)), back e (length xs + (e.0.offer_index - length xs)) (omega (arith, high))))
            (cases_lt e.0.offer_index (length xs));
      }

  first_at : (d : Option Choice) → IsLeast (IsCandidate rules xs q) d → best_offer rules q (alone (d >>= offer_of_choice xs) ++ ys) ≡ best_offer rules q (xs ++ ys)
  first_at None h = best_moved rules q ys (xs ++ ys) to_second (none_image h)
  first_at (Some d) h = rw h.1.3.1 (best_moved rules q (h.0 ∷ ys) (xs ++ ys) (to_all d.offer_index) (one_image d h))

  -- of all but the best of the first nothing is needed
  pub best_goes_on : best_offer rules q (alone (best_offer rules q xs) ++ ys) ≡ best_offer rules q (xs ++ ys)
  best_goes_on = first_at (choice rules xs q) ((choice_exact rules xs q (choice rules xs q)).1 refl)

best_of_none_at : (rules : List Rule) (q : PriceQuery) (d : Option Choice) → IsLeast (IsCandidate rules [] q) d → (d >>= offer_of_choice []) ≡ None
best_of_none_at rules q None h = refl
best_of_none_at rules q (Some d) h = absurd (let low = slice_get_within [] d.offer_index h.0 h.1.3.1 in omega (arith, low))

-- of no offers there is no best one
pub best_of_none : (rules : List Rule) (q : PriceQuery) → best_offer rules q [] ≡ None
best_of_none rules q = best_of_none_at rules q (choice rules [] q) ((choice_exact rules [] q (choice rules [] q)).1 refl)
