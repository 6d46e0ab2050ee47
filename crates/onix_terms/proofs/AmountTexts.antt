-- The texts of amounts are read back.
use Rattle.std.proofs.Common.{◌≡◌, ◌<◌, ◌+◌, ◌*◌, ◌/◌, ◌%◌, ◌^◌, ◌∙◌, List, [], ◌∷◌, ◌++◌, ℕ, Bool, true, false, Option, Some, arith, ap, refl, length, take, drop}
use Rattle.std.specs.Prelude.{decimal, nat_lt, option_map, if◌then◌else◌}
use Rattle.std.specs.List.{list_all, position_or_len, before_first, after_first}
use Rattle.std.specs.Char.{is_ascii_digit}
use Rattle.std.proofs.lemmas.List.{length-append}
use Rattle.std.proofs.lemmas.Bool.{and_parts}
use Rattle.std.proofs.lemmas.Bool.Decides.{nat_tests}
use Rattle.std.proofs.lemmas.Fmt.{digits_decimal}
use Rattle.std.proofs.Math.Seq.{take-append_seam, drop-append-add}
use Rattle.onix_terms.specs.Options.{◌>>=◌}
use Rattle.onix_terms.specs.Digits.{digits_of}
use Rattle.onix_terms.specs.Amount.{amount_of, amount_text, is_point, three_digits, thousandths_of}
use Rattle.onix_terms.proofs.DigitTexts.{own, digits-decimal, three-some}

no-point : (b : ℕ) → is_ascii_digit b ≡ true → is_point b ≡ false
no-point b digit = grind (arith, nat_tests, digit)

-- digits end where the point stands
point-after : (ds rest : List ℕ) → list_all is_ascii_digit ds ≡ true → position_or_len is_point (ds ++ 46 ∷ rest) ≡ length ds
point-after [] rest all = refl
point-after (d ∷ ds) rest all =
    let parts = and_parts (is_ascii_digit d) (list_all is_ascii_digit ds) all in
    let more = point-after ds rest parts.1 in
    let other : is_point d ≡ false = no-point d parts.0 in
    rw other (omega (arith, more))

-- what the two sides of a point come to
joined : (has : Bool) (before after whole part : List ℕ) (other : Option ℕ) (w p : ℕ) → has ≡ true → before ≡ whole → after ≡ part → digits_of whole ≡ Some w → thousandths_of part ≡ Some p →
    (if has then (digits_of before >>= (λ x. thousandths_of after >>= (λ y. Some (x * 1000 + y)))) else other) ≡ Some (w * 1000 + p)
joined has before after whole part other w p there left right dw dp = rw (there, left, right, dw, dp) refl

read-parts : (whole part : List ℕ) (w p : ℕ) → list_all is_ascii_digit whole ≡ true → digits_of whole ≡ Some w → thousandths_of part ≡ Some p → amount_of (whole ++ 46 ∷ part) ≡ Some (w * 1000 + p)
read-parts whole part w p all dw dp =
    let at : position_or_len is_point (whole ++ 46 ∷ part) ≡ length whole = point-after whole part all in
    let long : length (whole ++ 46 ∷ part) ≡ length whole + length (46 ∷ part) = length-append whole (46 ∷ part) in
    let there : nat_lt (position_or_len is_point (whole ++ 46 ∷ part)) (length (whole ++ 46 ∷ part)) ≡ true = grind (arith, nat_tests, at, long) in
    let left : before_first is_point (whole ++ 46 ∷ part) ≡ whole = ap (λ n. take n (whole ++ 46 ∷ part)) at ∙ take-append_seam whole (46 ∷ part) in
    let right : after_first is_point (whole ++ 46 ∷ part) ≡ part = ap (λ n. drop (n + 1) (whole ++ 46 ∷ part)) at ∙ drop-append-add whole (46 ∷ part) 1 in
    joined _ _ _ whole part _ w p there left right dw dp

pub reads-back : (n : ℕ) → n < 1_000_000_000_000 → amount_of (amount_text n) ≡ Some n
reads-back n small =
    let wide : n / 1000 < 2 ^ 64 = omega arith in
    let decimals : thousandths_of (three_digits (n % 1000)) ≡ Some (n % 1000 * 1) = ap (λ o. option_map (λ p. p * 1) o) (three-some (n % 1000) (omega arith)) in
    read-parts (decimal (n / 1000)) (three_digits (n % 1000)) (n / 1000) (n % 1000 * 1) (digits_decimal own (n / 1000) wide) (digits-decimal (n / 1000) (omega arith)) decimals
    ∙ ap (λ v. Some v) (omega arith)
