-- Numbers are read back from their digits, and a code is its text.
use Rattle.std.proofs.Common.{◌≡◌, ℕ, ◌<◌, ◌≤◌, ◌∙◌, List, Bool, true, Option, Some, None, ap, arith, length, lit<}
use Rattle.std.specs.Prelude.{◌&&◌, ◌==◌, nat_le, decimal}
use Rattle.std.specs.List.{list_all}
use Rattle.std.proofs.lemmas.Bool.{le-leb}
use Rattle.std.proofs.lemmas.Bool.Decides.{nat_tests}
use Rattle.std.proofs.lemmas.Fmt.{length-decimal-le}
use Rattle.std.proofs.lemmas.Option.{cond_some}
use Rattle.onix_terms.specs.Digits.{digits_of}
use Rattle.onix_terms.specs.Number.{number_of}
use Rattle.onix_terms.specs.Positive.{positive_from, positive_of}
use Rattle.onix_terms.specs.Quantity.{quantity_of}
use Rattle.onix_terms.specs.Code.{fixed_text}
use Rattle.onix_terms.proofs.DigitTexts.{digits-decimal}

-- a number that few digits write is read where it is positive and below the bound
few-digits : (digits below n : ℕ) (text : List ℕ) → length text ≤ digits → digits_of text ≡ Some n → 0 < n → n < below → positive_of digits below text ≡ Some n
few-digits digits below n text few is some small =
    let size : nat_le (length text) digits ≡ true = le-leb (length text) digits few in
    let value : positive_from below n ≡ Some n = grind (arith, nat_tests) in
    rw (size, is) value

pub number-decimal : (n : ℕ) → 0 < n → n < 1_000_000_000 → number_of (decimal n) ≡ Some n
number-decimal n some small = few-digits 9 1_000_000_000 n (decimal n) (length-decimal-le 9 n (lit< tt) small (omega arith)) (digits-decimal n small) some small

pub quantity-decimal : (n : ℕ) → 0 < n → n < 1_000_000 → quantity_of (decimal n) ≡ Some n
quantity-decimal n some small = few-digits 6 1_000_000 n (decimal n) (length-decimal-le 6 n (lit< tt) small (omega arith)) (digits-decimal n (omega arith)) some small

pub fixed-itself : (allowed : ℕ → Bool) (size : ℕ) (text code : List ℕ) → fixed_text allowed size text ≡ Some code → text ≡ code
fixed-itself allowed size text code e = (cond_some ((length text == size) && list_all allowed text) text code e).1
