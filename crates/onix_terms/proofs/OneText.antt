-- A day has one text.
use Rattle.std.proofs.Common.{◌≡◌, ℕ, ℤ, ◌<◌, ◌≤◌, ◌+◌, ◌-◌, ◌*◌, ◌^◌, ◌∙◌, List, [], ◌∷◌, true, Some, refl, sym, ap, subst, arith, length}
use Rattle.std.specs.Prelude.{◌==◌}
use Rattle.std.specs.List.{list_all}
use Rattle.std.specs.Char.{is_ascii_digit, digit_value}
use Rattle.std.specs.Str.Parse.{digits_value_after}
use Rattle.std.proofs.lemmas.Bool.{and_parts, eqb-true}
use Rattle.std.proofs.lemmas.Bool.Decides.{nat_tests}
use Rattle.onix_terms.specs.Options.{◌>>=◌}
use Rattle.onix_terms.specs.Digits.{digits_of}
use Rattle.onix_terms.specs.Day.{day_at, day_of, day_text, eight_digits}
use Rattle.onix_terms.proofs.Ranges.{between, digits-bound, met}
use Rattle.onix_terms.proofs.DayNumbers.{date_of-is}
use Rattle.onix_terms.proofs.DayTexts.{eight-some}

-- the digits of a number, and what a digit more makes of it
digit-known : (c : ℕ) → is_ascii_digit c ≡ true → (48 ≤ c) × (c < 58) × (digit_value c ≡ c - 48)
digit-known c e = (grind (arith, nat_tests, e), grind (arith, nat_tests, e), grind (arith, nat_tests, e))

-- digits of one length that write one number are the same
same-digits : (a b : ℕ) (xs ys : List ℕ) → length xs ≡ length ys → list_all is_ascii_digit xs ≡ true → list_all is_ascii_digit ys ≡ true →
    digits_value_after 10 a xs ≡ digits_value_after 10 b ys → (a ≡ b) × (xs ≡ ys)
same-digits a b [] [] long all others same = (same, refl)
same-digits a b [] (y ∷ ys) long all others same = absurd (omega (arith, long))
same-digits a b (x ∷ xs) [] long all others same = absurd (omega (arith, long))
same-digits a b (x ∷ xs) (y ∷ ys) long all others same =
    let p = and_parts (is_ascii_digit x) (list_all is_ascii_digit xs) all in
    let q = and_parts (is_ascii_digit y) (list_all is_ascii_digit ys) others in
    let rest = same-digits (a * 10 + digit_value x) (b * 10 + digit_value y) xs ys (omega (arith, long)) p.1 q.1 same in
    let first = digit-known x p.0 in
    let second = digit-known y q.0 in
    let equal : a * 10 + digit_value x ≡ b * 10 + digit_value y = rest.0 in
    let before : a ≡ b = omega (arith, equal, first.2, second.2) in
    let digit : x ≡ y = omega (arith, equal, first.2, second.2) in
    (before, λ i. digit i ∷ rest.1 i)

-- the text of a day by its number YYYYMMDD
by-date : (text : List ℕ) (date : ℕ) (day : ℤ) → length text ≡ 8 → digits_of text ≡ Some date → day_at date ≡ Some day → text ≡ day_text day
by-date text date day eight digits is =
    let here = digits-bound text date digits in
    let small : date < 10 ^ 8 = subst (λ (k : ℕ). date < 10 ^ k) eight here.places in
    let there = digits-bound (eight_digits date) date (eight-some date small) in
    let same : text ≡ eight_digits date = (same-digits 0 0 text (eight_digits date) eight here.all there.all (here.value ∙ sym there.value)).1 in
    same ∙ ap eight_digits (sym (date_of-is day date small is))

pub one-text : (text : List ℕ) (day : ℤ) → day_of text ≡ Some day → text ≡ day_text day
one-text text day e =
    let eight = met (length text == 8) (digits_of text >>= day_at) day e in
    let steps = between (digits_of text) day_at day eight.1 in
    by-date text steps.value day (eqb-true (length text) 8 eight.0) steps.first_gives steps.second_gives
