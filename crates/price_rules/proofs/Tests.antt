-- What the tests of days, numbers and options tell.
use Rattle.std.proofs.Common.{◌≡◌, ◌↔◌, ℕ, ◌<◌, ◌≤◌, ℤ, ◌≤ℤ◌, Option, Bool, true, false, not, nat_eq, IsTrue, sym, refl, arith}
use Rattle.std.specs.Option.{option_eq}
use Rattle.std.specs.Ordering.{int_cmp, int_eq, nat_cmp, is_le, is_lt}
use Rattle.std.proofs.lemmas.Bool.Decides.{Decides-eqb, Decides-int_eq, nat_tests}
use Rattle.std.proofs.lemmas.Int.{ints}
use Rattle.onix_terms.specs.Plain.{option-decides}

pub day_le_is : (a b : ℤ) (r : Bool) → r ≡ is_le (int_cmp a b) → IsTrue r ↔ (a ≤ℤ b)
day_le_is a b r e = (λ h. grind (arith, ints), λ h. grind (arith, ints))

pub number_le_is : (a b : ℕ) (r : Bool) → r ≡ is_le (nat_cmp a b) → IsTrue r ↔ (a ≤ b)
number_le_is a b r e = (λ h. grind (arith, nat_tests), λ h. grind (arith, nat_tests))

pub number_lt_is : (a b : ℕ) (r : Bool) → r ≡ is_lt (nat_cmp a b) → IsTrue r ↔ (a < b)
number_lt_is a b r e = (λ h. grind (arith, nat_tests), λ h. grind (arith, nat_tests))

-- a test of unequal things
pub same_number : (a b : ℕ) → false ≡ not (nat_eq a b) → a ≡ b
same_number a b e = grind (arith, nat_tests)

pub other_number : (a b : ℕ) → true ≡ not (nat_eq a b) → a ≡ b → ⊥
other_number a b e h = grind (arith, nat_tests)

not_true : (b : Bool) → false ≡ not b → b ≡ true
not_true true e = refl
not_true false e = cc

not_false : (b : Bool) → true ≡ not b → b ≡ false
not_false true e = cc
not_false false e = refl

pub same_days : (a b : Option ℤ) → false ≡ not (option_eq int_eq a b) → a ≡ b
same_days a b e = (option-decides Decides-int_eq a b).0 (not_true (option_eq int_eq a b) e)

pub other_days : (a b : Option ℤ) → true ≡ not (option_eq int_eq a b) → a ≡ b → ⊥
other_days a b e h = let f = not_false (option_eq int_eq a b) e in let t = (option-decides Decides-int_eq a b).1 h in cc

pub same_amounts : (a b : Option ℕ) → true ≡ option_eq nat_eq a b → a ≡ b
same_amounts a b e = (option-decides Decides-eqb a b).0 (sym e)

pub other_amounts : (a b : Option ℕ) → false ≡ option_eq nat_eq a b → a ≡ b → ⊥
other_amounts a b e h = let t = (option-decides Decides-eqb a b).1 h in cc
