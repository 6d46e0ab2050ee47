-- The computed choice is a candidate that none precedes, and nothing else is.
use Rattle.std.proofs.Common.{◌≡◌, ◌↔◌, ℕ, zero, suc, ◌+◌, ◌<◌, ◌≤◌, List, [], ◌∷◌, Option, Some, None, Bool, true, false, nat_lt, nat_le, ◌==◌, ◌&&◌, ◌⊎◌, inl, inr, ⊎_elim, slice_get, option_map, sym, refl, subst, ap, arith, ◌∙◌}
use Rattle.std.specs.Bool.{Decides}
use Rattle.std.specs.List.{Contains}
use Rattle.std.specs.Ordering.{is_eq, is_lt, nat_cmp, ordering_reverse}
use Rattle.std.specs.declared.cmp.Ordering.{Ordering}
use Rattle.std.specs.declared.cmp.Ordering.TheVariants.{Less, Equal, Greater}
use Rattle.std.specs.Cmp.Lexicographic.{slice_cmp}
use Rattle.std.specs.Str.{bytes_eq}
use Rattle.std.proofs.lemmas.Bool.{cases_lt}
use Rattle.std.proofs.lemmas.Bool.Decides.{Decides-and, Decides-eqb, Decides-ltb}
use Rattle.std.proofs.lemmas.Cmp.{nat_list_cmp_total}
use Rattle.std.proofs.lemmas.List.Elements.{All-contains, Contains-append_cases, Contains-append_left, Contains-append_right}
use Rattle.std.proofs.lemmas.Map.Text.{is_eq-slice_cmp}
use Rattle.std.proofs.lemmas.Slice.Eq.{bytes_eq-Decides}
use Rattle.price_rules.specs.Order.{IsBest, IsLess}
use Rattle.price_rules.specs.Price.{IsCurrent}
use Rattle.price_rules.specs.Current.{current, has_code}
use Rattle.price_rules.specs.Choice.{Admits, Fits, IsCandidate, IsChoice, IsRuleCandidate, IsSeries, IsTextLess, IsWithin, Pair, Precedes}
use Rattle.price_rules.specs.Chosen.{amount_under, amount_within, candidates, choice, is_series, is_text_less, pair_of, precedes, rule_candidates}
use Rattle.price_rules.specs.declared.choice.Choice.{Choice}
use Rattle.price_rules.specs.declared.offer.Offer.{Offer}
use Rattle.price_rules.specs.declared.offer.PriceQuery.{PriceQuery}
use Rattle.price_rules.specs.declared.precedence.Rule.{Rule}
use Rattle.price_rules.proofs.Best.{Compares, alike_at, best_is, less_compares, then_compares, then_decides}
use Rattle.price_rules.proofs.CurrentPrice.{current_exact, current_unique, has_code_decides, nat_le_decides}
use Rattle.price_rules.proofs.Members.{in_one, not_in_none, first_in}
use Rattle.price_rules.proofs.Scan.{precedes_order, same_some}

is_series_decides : (series : Option (List ℕ)) (name : List ℕ) → Decides (is_series series name) (IsSeries series name)
is_series_decides None name = (λ _. tt, λ _. refl)
is_series_decides (Some wanted) name = bytes_eq-Decides wanted name

-- the amount that is computed under a greatest one
within_is : (max : Option ℕ) (amount : ℕ) → IsWithin max amount → amount_within max (Some amount) ≡ Some amount
within_is None amount h = refl
within_is (Some most) amount h = rw ((nat_le_decides amount most).1 h)

within_at : (most amount a : ℕ) (t : Bool) → Decides t (amount ≤ most) → nat_le amount most ≡ t → amount_within (Some most) (Some amount) ≡ Some a → (amount ≡ a) × (a ≤ most)
within_at most amount a true d e h =
    let s : amount ≡ a = same_some amount a (rw e at h) in (s, subst (λ n. n ≤ most) s (d.0 refl))
within_at most amount a false d e h = let wrong = rw e at h in cc

from_within : (max given : Option ℕ) (amount : ℕ) → amount_within max given ≡ Some amount → (given ≡ Some amount) × IsWithin max amount
from_within max None amount h = cc
from_within None (Some given) amount h = (h, tt)
from_within (Some most) (Some given) amount h =
    let r = within_at most given amount (nat_le given most) (nat_le_decides given most) refl h in
    (ap (λ n. Some n) r.0, r.1)

-- the computed amount is one that fits, and each one that fits is it
from_amount_at : (rule : Rule) (offer : Offer) (q : PriceQuery) (amount : ℕ) (t : Bool) → Decides t (Admits rule offer)
    → (is_series rule.series offer.series && has_code offer.availability rule.codes) ≡ t → amount_under rule offer q ≡ Some amount → Fits rule offer q amount
from_amount_at rule offer q amount true d e h =
    let r = from_within rule.max (current offer q) amount (rw e at h) in
    (d.0 refl, (current_exact offer q (Some amount)).1 (sym r.0), r.1)
from_amount_at rule offer q amount false d e h = let wrong = rw e at h in cc

admits_decides : (rule : Rule) (offer : Offer) → Decides (is_series rule.series offer.series && has_code offer.availability rule.codes) (Admits rule offer)
admits_decides rule offer = Decides-and _ _ (is_series_decides rule.series offer.series) (has_code_decides offer.availability rule.codes)

from_amount : (rule : Rule) (offer : Offer) (q : PriceQuery) (amount : ℕ) → amount_under rule offer q ≡ Some amount → Fits rule offer q amount
from_amount rule offer q amount h = from_amount_at rule offer q amount _ (admits_decides rule offer) refl h

onto_amount : (rule : Rule) (offer : Offer) (q : PriceQuery) (amount : ℕ) → Fits rule offer q amount → amount_under rule offer q ≡ Some amount
onto_amount rule offer q amount h =
    rw ((admits_decides rule offer).1 h.0, ← (current_exact offer q (Some amount)).0 h.1) (within_is rule.max amount h.2)

-- the pairs of one rule
from_pair : (rule : Rule) (number index : ℕ) (offer : Offer) (q : PriceQuery) (amount : Option ℕ) (c : Pair) → amount_under rule offer q ≡ amount
    → Contains (pair_of number index offer amount) c → (c.0.rule ≡ number) × (c.0.offer_index ≡ index) × (offer ≡ c.1) × Fits rule c.1 q c.0.amount
from_pair rule number index offer q None c e h = absurd (not_in_none c h)
from_pair rule number index offer q (Some amount) c e h =
    let s = in_one (record { rule = number; offer_index = index; amount = amount }, offer) c h in (
      ap (λ (x : Pair). x.0.rule) (sym s),
      ap (λ (x : Pair). x.0.offer_index) (sym s),
      ap (λ (x : Pair). x.1) s,
      subst (λ (x : Pair). Fits rule x.1 q x.0.amount) s (from_amount rule offer q amount e),
    )

from_rule : (rule : Rule) (number : ℕ) (q : PriceQuery) (index : ℕ) (offers : List Offer) (c : Pair) → Contains (rule_candidates rule number q index offers) c
    → (j : ℕ) × (c.0.offer_index ≡ index + j) × (c.0.rule ≡ number) × (slice_get offers j ≡ Some c.1) × Fits rule c.1 q c.0.amount
from_rule rule number q index [] c h = absurd (not_in_none c h)
from_rule rule number q index (offer ∷ rest) c h =
    ⊎_elim
    (λ a. let p = from_pair rule number index offer q (amount_under rule offer q) c refl a in (0, omega (arith, p.1), p.0, ap (λ o. Some o) p.2, p.3))
    (λ b. let r = from_rule rule number q (index + 1) rest c b in (suc r.0, omega (arith, r.1), r.2, r.3, r.4))
    (Contains-append_cases (pair_of number index offer (amount_under rule offer q)) (rule_candidates rule number q (index + 1) rest) c h)

onto_pair : (rule : Rule) (number index amount : ℕ) (offer : Offer) (q : PriceQuery) → Fits rule offer q amount
    → Contains (pair_of number index offer (amount_under rule offer q)) (record { rule = number; offer_index = index; amount = amount }, offer)
onto_pair rule number index amount offer q h =
    subst (λ a. Contains (pair_of number index offer a) (record { rule = number; offer_index = index; amount = amount }, offer))
    (sym (onto_amount rule offer q amount h))
    (first_in (record { rule = number; offer_index = index; amount = amount }, offer) [])

onto_rule : (rule : Rule) (number : ℕ) (q : PriceQuery) (index : ℕ) (offers : List Offer) (j n amount : ℕ) (offer : Offer) → n ≡ index + j → slice_get offers j ≡ Some offer → Fits rule offer q amount
    → Contains (rule_candidates rule number q index offers) (record { rule = number; offer_index = n; amount = amount }, offer)
onto_rule rule number q index [] j n amount offer e at h = cc
onto_rule rule number q index (first ∷ rest) zero n amount offer e at h =
    let same : first ≡ offer = same_some first offer at in
    let place : index ≡ n = omega arith in
    Contains-append_left (pair_of number index first (amount_under rule first q)) (rule_candidates rule number q (index + 1) rest) _
    (subst (λ (o : Offer). Contains (pair_of number index first (amount_under rule first q)) (record { rule = number; offer_index = n; amount = amount }, o)) same
    (subst (λ (i : ℕ). Contains (pair_of number index first (amount_under rule first q)) (record { rule = number; offer_index = i; amount = amount }, first)) place
    (onto_pair rule number index amount first q (subst (λ (o : Offer). Fits rule o q amount) (sym same) h))))
onto_rule rule number q index (first ∷ rest) (suc j) n amount offer e at h =
    Contains-append_right (pair_of number index first (amount_under rule first q)) (rule_candidates rule number q (index + 1) rest) _
    (onto_rule rule number q (index + 1) rest j n amount offer (omega arith) at h)

-- the pairs of all rules
from_rules : (number : ℕ) (rules : List Rule) (offers : List Offer) (q : PriceQuery) (c : Pair) → Contains (candidates number rules offers q) c
    → (k : ℕ) × (rule : Rule) × (slice_get rules k ≡ Some rule) × IsRuleCandidate rule (number + k) offers q c
from_rules number [] offers q c h = absurd (not_in_none c h)
from_rules number (rule ∷ rest) offers q c h =
    ⊎_elim
    (λ a. let r = from_rule rule number q 0 offers c a in
    let place : r.0 ≡ c.0.offer_index = omega (arith, r.1) in
    let count : c.0.rule ≡ number + 0 = omega (arith, r.2) in
    (0, rule, refl, (count, subst (λ (i : ℕ). slice_get offers i ≡ Some c.1) place r.3, r.4)))
    (λ b. let r = from_rules (number + 1) rest offers q c b in
    let count : number + 1 + r.0 ≡ number + suc r.0 = omega arith in
    (suc r.0, r.1, r.2, subst (λ (n : ℕ). IsRuleCandidate r.1 n offers q c) count r.3))
    (Contains-append_cases (rule_candidates rule number q 0 offers) (candidates (number + 1) rest offers q) c h)

pair_with_rule : (c : Pair) (n : ℕ) → n ≡ c.0.rule → ◌≡◌ {A = Pair} (record { rule = n; offer_index = c.0.offer_index; amount = c.0.amount }, c.1) c
pair_with_rule c n e = λ i. (record { rule = e i; offer_index = c.0.offer_index; amount = c.0.amount }, c.1)

onto_rules : (number : ℕ) (rules : List Rule) (offers : List Offer) (q : PriceQuery) (c : Pair) (k : ℕ) (rule : Rule) → slice_get rules k ≡ Some rule → IsRuleCandidate rule (number + k) offers q c
    → Contains (candidates number rules offers q) c
onto_rules number [] offers q c k rule at h = cc
onto_rules number (first ∷ rest) offers q c zero rule at h =
    let same : rule ≡ first = sym (same_some first rule at) in
    let count : number ≡ c.0.rule = omega (arith, h.0) in
    Contains-append_left (rule_candidates first number q 0 offers) (candidates (number + 1) rest offers q) c
    (subst (Contains (rule_candidates first number q 0 offers)) (pair_with_rule c number count)
    (onto_rule first number q 0 offers c.0.offer_index c.0.offer_index c.0.amount c.1 (omega arith) h.1 (subst (λ (r : Rule). Fits r c.1 q c.0.amount) same h.2)))
onto_rules number (first ∷ rest) offers q c (suc k) rule at h =
    let count : number + suc k ≡ number + 1 + k = omega arith in
    Contains-append_right (rule_candidates first number q 0 offers) (candidates (number + 1) rest offers q) c
    (onto_rules (number + 1) rest offers q c k rule at (subst (λ (n : ℕ). IsRuleCandidate rule n offers q c) count h))

from_candidates : (rules : List Rule) (offers : List Offer) (q : PriceQuery) (c : Pair) → Contains (candidates 1 rules offers q) c → IsCandidate rules offers q c
from_candidates rules offers q c h =
    let r = from_rules 1 rules offers q c h in
    let count : 1 + r.0 ≡ r.0 + 1 = omega arith in
    (r.1, r.0, r.2, subst (λ (n : ℕ). IsRuleCandidate r.1 n offers q c) count r.3)

onto_candidates : (rules : List Rule) (offers : List Offer) (q : PriceQuery) (c : Pair) → IsCandidate rules offers q c → Contains (candidates 1 rules offers q) c
onto_candidates rules offers q c h =
    let count : h.1 + 1 ≡ 1 + h.1 = omega arith in
    onto_rules 1 rules offers q c h.1 h.0 h.2 (subst (λ (n : ℕ). IsRuleCandidate h.0 n offers q c) count h.3)

-- the test of the order of pairs
is_lt_decides : (o : Ordering) → Decides (is_lt o) (o ≡ Less)
is_lt_decides Less = (λ _. refl, λ _. refl)
is_lt_decides Equal = (λ e. cc, λ e. cc)
is_lt_decides Greater = (λ e. cc, λ e. cc)

precedes_decides : (c d : Pair) → Decides (precedes c d) (Precedes c d)
precedes_decides =
    then_decides (λ c. c.0.rule) IsLess _ nat_lt ◌==◌ _ Decides-ltb Decides-eqb
    (then_decides (λ c. c.0.amount) IsLess _ nat_lt ◌==◌ _ Decides-ltb Decides-eqb
    (then_decides (λ c. c.1.series) IsTextLess _ is_text_less bytes_eq _ (λ a b. is_lt_decides (slice_cmp nat_cmp a b)) bytes_eq-Decides
    (then_decides (λ c. c.1.reference) IsTextLess _ is_text_less bytes_eq _ (λ a b. is_lt_decides (slice_cmp nat_cmp a b)) bytes_eq-Decides
    (then_decides (λ c. c.1.place) IsLess _ nat_lt ◌==◌ _ Decides-ltb Decides-eqb (λ c d. Decides-ltb c.0.offer_index d.0.offer_index)))))

-- of two pairs with different indices one precedes the other
text_compares_at : (a b : List ℕ) (o : Ordering) → slice_cmp nat_cmp a b ≡ o → IsTextLess a b ⊎ ((a ≡ b) ⊎ IsTextLess b a)
text_compares_at a b Less e = inl e
text_compares_at a b Equal e = inr (inl ((bytes_eq-Decides a b).0 (sym (is_eq-slice_cmp a b) ∙ ap is_eq e)))
text_compares_at a b Greater e = inr (inr (nat_list_cmp_total.antisymm b a ∙ ap ordering_reverse e))

text_compares : Compares (λ a b. a ≡ b) IsTextLess
text_compares a b = text_compares_at a b (slice_cmp nat_cmp a b) refl

abbrev SameIndex : Pair → Pair → Type 0
SameIndex c d = c.0.offer_index ≡ d.0.offer_index

pair_compares : Compares SameIndex Precedes
pair_compares =
    then_compares (λ c. c.0.rule) IsLess _ SameIndex less_compares
    (then_compares (λ c. c.0.amount) IsLess _ SameIndex less_compares
    (then_compares (λ c. c.1.series) IsTextLess _ SameIndex text_compares
    (then_compares (λ c. c.1.reference) IsTextLess _ SameIndex text_compares
    (then_compares (λ c. c.1.place) IsLess (λ c d. c.0.offer_index < d.0.offer_index) SameIndex less_compares (λ c d. less_compares c.0.offer_index d.0.offer_index)))))

-- two candidates, neither of which precedes the other, are the same
pub same_pair : (rules : List Rule) (offers : List Offer) (q : PriceQuery) (x y : Pair) → IsCandidate rules offers q x → IsCandidate rules offers q y → (Precedes x y → ⊥) → (Precedes y x → ⊥) → x ≡ y
same_pair rules offers q x y h k not_before not_after =
    let same_rule : x.0.rule ≡ y.0.rule =
    ⊎_elim (λ lt. absurd (not_before (inl lt))) (λ ge. ⊎_elim (λ lt. absurd (not_after (inl lt))) (λ le. omega arith) (cases_lt y.0.rule x.0.rule)) (cases_lt x.0.rule y.0.rule) in
    let same_index : x.0.offer_index ≡ y.0.offer_index = alike_at SameIndex Precedes x y not_before not_after (pair_compares x y) in
    let same_offer : x.1 ≡ y.1 = same_some x.1 y.1 (sym h.3.1 ∙ ap (slice_get offers) same_index ∙ k.3.1) in
    let same_amount : x.0.amount ≡ y.0.amount =
    same_some x.0.amount y.0.amount (current_unique y.1 q (Some x.0.amount) (Some y.0.amount) (subst (λ (o : Offer). IsCurrent o q (Some x.0.amount)) same_offer h.3.2.1) k.3.2.1) in
    λ i. (record { rule = same_rule i; offer_index = same_index i; amount = same_amount i }, same_offer i)

choice_unique : (rules : List Rule) (offers : List Offer) (q : PriceQuery) (a b : Option Choice) → IsChoice rules offers q a → IsChoice rules offers q b → a ≡ b
choice_unique rules offers q None None h k = refl
choice_unique rules offers q None (Some b) h k = absurd (h (b, k.0) k.1)
choice_unique rules offers q (Some a) None h k = absurd (k (a, h.0) h.1)
choice_unique rules offers q (Some a) (Some b) h k =
    ap (λ (c : Pair). Some c.0) (same_pair rules offers q (a, h.0) (b, k.0) h.1 k.1 (k.2 (a, h.0) h.1) (h.2 (b, k.0) k.1))

of_best : (rules : List Rule) (offers : List Offer) (q : PriceQuery) (best : Option Pair) → IsBest (λ c. Unit {0}) Precedes (candidates 1 rules offers q) best
    → IsChoice rules offers q (option_map (λ c. c.0) best)
of_best rules offers q None h = λ c m. All-contains (λ x. Unit {0} → ⊥) (candidates 1 rules offers q) c h (onto_candidates rules offers q c m) tt
of_best rules offers q (Some best) h = (
  best.1,
  from_candidates rules offers q best h.0,
  λ c m p. All-contains (λ x. Unit {0} → Precedes x best → ⊥) (candidates 1 rules offers q) c h.2 (onto_candidates rules offers q c m) tt p,
)

-- what is computed is the choice
choice_is : (rules : List Rule) (offers : List Offer) (q : PriceQuery) → IsChoice rules offers q (choice rules offers q)
unfolding choice
choice_is rules offers q =
    of_best rules offers q _
    (best_is (λ c. Unit {0}) Precedes (λ c. true) precedes precedes_order (λ c. (λ _. tt, λ _. refl)) precedes_decides (candidates 1 rules offers q))

-- and nothing else is
pub choice_exact : (rules : List Rule) (offers : List Offer) (q : PriceQuery) (chosen : Option Choice) → IsChoice rules offers q chosen ↔ (chosen ≡ choice rules offers q)
choice_exact rules offers q chosen = (
  λ h. choice_unique rules offers q chosen (choice rules offers q) h (choice_is rules offers q),
  λ e. subst (IsChoice rules offers q) (sym e) (choice_is rules offers q),
)
