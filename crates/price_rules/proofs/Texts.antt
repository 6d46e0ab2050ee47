-- The order of texts by their bytes.
use Rattle.std.proofs.Common.{◌≡◌, ◌↔◌, ℕ, ◌<◌, List, Bool, nat_lt, IsTrue, ◌⊎◌, inr, ⊎_elim, sym, refl, subst, ap, arith, ◌∙◌}
use Rattle.std.proofs.lemmas.Bool.Decides.{nat_tests}
use Rattle.std.specs.Ordering.{ordering_reverse}
use Rattle.std.specs.declared.cmp.Ordering.TheVariants.{Less, Greater}
use Rattle.std.proofs.lemmas.Cmp.{nat_list_cmp_total}
use Rattle.price_rules.specs.Choice.{IsTextLess}
use Rattle.price_rules.proofs.Best.{IsOrder}

less_is_greater : (a : List ℕ) → IsTextLess a a → Less ≡ Greater
less_is_greater a h = sym h ∙ nat_list_cmp_total.antisymm a a ∙ ap ordering_reverse h

pub text_never : (a b : List ℕ) → a ≡ b → IsTextLess a b → ⊥
text_never a b e h = let k = less_is_greater a (subst (λ z. IsTextLess a z) (sym e) h) in cc

pub text_order : IsOrder IsTextLess
text_order = record { never = λ x h. text_never x x refl h; chain = λ x y z h k. nat_list_cmp_total.trans x y z h k }

pub then_text_test : (a b : List ℕ) (r : Bool) (P : Type 0) → a ≡ b → (IsTrue r ↔ P) → IsTrue r ↔ (IsTextLess a b ⊎ ((a ≡ b) × P))
then_text_test a b r P e t = (λ p. inr (e, t.0 p), λ h. ⊎_elim (λ less. absurd (text_never a b e less)) (λ k. t.1 k.1) h)

pub nat_lt_is : (a b : ℕ) → IsTrue (nat_lt a b) ↔ (a < b)
nat_lt_is a b = (λ h. grind (arith, nat_tests), λ h. grind (arith, nat_tests))
