-- Texts of decimal digits and the numbers that they write.
use Rattle.std.proofs.Common.{rules, ◌≡◌, ◌<◌, ◌≤◌, ◌+◌, ◌*◌, ◌/◌, ◌%◌, ◌^◌, ◌∙◌, lit<, lit≤, List, [], ◌++◌, ℕ, true, Some, arith, ap, length}
use Rattle.std.specs.Prelude.{◌&&◌, decimal}
use Rattle.std.specs.List.{list_all}
use Rattle.std.specs.Char.{is_ascii_digit, digit_value}
use Rattle.std.specs.Str.Parse.{digits_value, digits_value_after}
use Rattle.std.proofs.lemmas.Str.Parse.{IsNumeralModel, numerals_by_fold}
use Rattle.std.proofs.lemmas.Fmt.{digits_decimal, digits_value-decimal, length-decimal-le, decimal_nonempty}
use Rattle.std.proofs.lemmas.Bool.Decides.{nat_tests}
use Rattle.onix_terms.specs.Digits.{digits_of, two_digits}
use Rattle.onix_terms.specs.Amount.{three_digits}

pub own : IsNumeralModel (λ ds. list_all is_ascii_digit ds ≡ true) (digits_value 10)
own = numerals_by_fold _ (search rules) (digits_value_after 10) (search rules)

pub digits-some : (text : List ℕ) → 0 < length text → length text ≤ 9 → list_all is_ascii_digit text ≡ true → digits_of text ≡ Some (digits_value 10 text)
digits-some text some few all = grind (arith, nat_tests, all)

pub digits-decimal : (n : ℕ) → n < 1_000_000_000 → digits_of (decimal n) ≡ Some n
digits-decimal n small =
    let wide : n < 2 ^ 64 = omega arith in
    digits-some (decimal n) (decimal_nonempty n wide) (length-decimal-le 9 n (lit< tt) small wide) (digits_decimal own n wide)
    ∙ ap (λ v. Some v) (digits_value-decimal own n wide)

digit-passes : (d : ℕ) → d < 10 → is_ascii_digit (48 + d) ≡ true
digit-passes d small = grind (arith, nat_tests)

digit-worth : (d : ℕ) → d < 10 → digit_value (48 + d) ≡ d
digit-worth d small = grind (arith, nat_tests)

pub two-after : (before n : ℕ) (rest : List ℕ) → n < 100 → digits_value_after 10 before (two_digits n ++ rest) ≡ digits_value_after 10 (before * 100 + n) rest
two-after before n rest small =
    let tens : digit_value (48 + n / 10) ≡ n / 10 = digit-worth (n / 10) (omega arith) in
    let ones : digit_value (48 + n % 10) ≡ n % 10 = digit-worth (n % 10) (omega arith) in
    let whole : (before * 10 + digit_value (48 + n / 10)) * 10 + digit_value (48 + n % 10) ≡ before * 100 + n = omega (arith, tens, ones) in
    ap (λ v. digits_value_after 10 v rest) whole

pub two-digits : (n : ℕ) (rest : List ℕ) → n < 100 → list_all is_ascii_digit (two_digits n ++ rest) ≡ list_all is_ascii_digit rest
two-digits n rest small =
    let tens : is_ascii_digit (48 + n / 10) ≡ true = digit-passes (n / 10) (omega arith) in
    let ones : is_ascii_digit (48 + n % 10) ≡ true = digit-passes (n % 10) (omega arith) in
    ap (λ b. b && (is_ascii_digit (48 + n % 10) && list_all is_ascii_digit rest)) tens ∙ ap (λ b. b && list_all is_ascii_digit rest) ones

pub three-some : (n : ℕ) → n < 1000 → digits_of (three_digits n) ≡ Some n
three-some n small =
    let hundreds : digit_value (48 + n / 100) ≡ n / 100 = digit-worth (n / 100) (omega arith) in
    let first : is_ascii_digit (48 + n / 100) ≡ true = digit-passes (n / 100) (omega arith) in
    let all : list_all is_ascii_digit (three_digits n) ≡ true = ap (λ b. b && list_all is_ascii_digit (two_digits (n % 100))) first ∙ two-digits (n % 100) [] (omega arith) in
    let value : digits_value 10 (three_digits n) ≡ (0 * 10 + digit_value (48 + n / 100)) * 100 + n % 100 = two-after (0 * 10 + digit_value (48 + n / 100)) (n % 100) [] (omega arith) in
    let whole : digits_value 10 (three_digits n) ≡ n = omega (arith, value, hundreds) in
    digits-some (three_digits n) (lit< tt) (lit≤ tt) all ∙ ap (λ v. Some v) whole
