-- The ranges of the values that are read.
use Rattle.std.proofs.Common.{◌≡◌, ℕ, ◌<◌, ◌≤◌, ◌+◌, ◌*◌, ◌^◌, ℤ, List, Bool, true, false, Option, Some, None, refl, sym, subst, arith, length, inl, inr}
use Rattle.std.specs.Prelude.{◌&&◌, ◌==◌, nat_lt, nat_le, option_map, if◌then◌else◌}
use Rattle.std.specs.List.{list_all, position_or_len, before_first, after_first}
use Rattle.std.specs.Char.{is_ascii_digit}
use Rattle.std.specs.Str.Parse.{digits_value}
use Rattle.std.proofs.lemmas.Bool.{and_parts, ltb-true, leb-true, cases_lt}
use Rattle.std.proofs.lemmas.Option.{cond_some}
use Rattle.std.proofs.lemmas.Str.Parse.{digits_value_short}
use Rattle.onix_terms.specs.Options.{◌>>=◌}
use Rattle.onix_terms.specs.Digits.{digits_of}
use Rattle.onix_terms.specs.Positive.{positive_from, positive_of}
use Rattle.onix_terms.specs.Amount.{amount_of, thousandths_of, last_digit_worth, is_point}
use Rattle.onix_terms.specs.Day.{IsDayNumber, day_at, day_of}
use Rattle.onix_terms.proofs.DigitTexts.{own}
use Rattle.onix_terms.proofs.DayNumbers.{day_at-in_range}

-- what a number of digits is
pub record IsBounded (text : List ℕ) (n : ℕ) : Type 0 where
  pub all : list_all is_ascii_digit text ≡ true
  pub value : digits_value 10 text ≡ n
  pub some : 0 < length text
  pub few : length text ≤ 9
  pub places : n < 10 ^ length text
  pub below : n < 1_000_000_000

pub digits-bound : (text : List ℕ) (n : ℕ) → digits_of text ≡ Some n → IsBounded text n
digits-bound text n e =
    let through = cond_some (nat_lt 0 (length text) && nat_le (length text) 9 && list_all is_ascii_digit text) (digits_value 10 text) n e in
    let tests = and_parts (nat_lt 0 (length text) && nat_le (length text) 9) (list_all is_ascii_digit text) through.0 in
    let sizes = and_parts (nat_lt 0 (length text)) (nat_le (length text) 9) tests.0 in
    let some : 0 < length text = ltb-true 0 (length text) sizes.0 in
    let few : length text ≤ 9 = leb-true (length text) 9 sizes.1 in
    let all : list_all is_ascii_digit text ≡ true = tests.1 in
    record {
      all = all;
      value = through.1;
      some = some;
      few = few;
      places = subst (λ (v : ℕ). v < 10 ^ length text) through.1 (digits_value_short own text (length text) all (omega arith));
      below = subst (λ (v : ℕ). v < 10 ^ 9) through.1 (digits_value_short own text 9 all few);
    }

-- the value between two steps
pub record Between {A B : Type 0} (first : Option A) (second : A → Option B) (found : B) : Type 0 where
  pub value : A
  pub first_gives : first ≡ Some value
  pub second_gives : second value ≡ Some found

pub between : {A B : Type 0} (first : Option A) (second : A → Option B) (found : B) → (first >>= second) ≡ Some found → Between first second found
between None second found e = cc
between (Some value) second found e = record { value = value; first_gives = refl; second_gives = e }

mapped : {A B : Type 0} (first : Option A) (f : A → B) (found : B) → option_map f first ≡ Some found → Between first (λ a. Some (f a)) found
mapped None f found e = cc
mapped (Some value) f found e = record { value = value; first_gives = refl; second_gives = e }

-- a test before it was met
pub met : {A : Type 0} (test : Bool) (o : Option A) (found : A) → (if test then o else None) ≡ Some found → (test ≡ true) × (o ≡ Some found)
met true o found e = (refl, e)
met false o found e = cc

bounded : (n limit found : ℕ) → (if nat_lt 0 n && nat_lt n limit then Some n else None) ≡ Some found → (0 < found) × (found < limit)
bounded n limit found e =
    let through = cond_some (nat_lt 0 n && nat_lt n limit) n found e in
    let tests = and_parts (nat_lt 0 n) (nat_lt n limit) through.0 in
    subst (λ (v : ℕ). (0 < v) × (v < limit)) through.1 (ltb-true 0 n tests.0, ltb-true n limit tests.1)

pub positive-range : (digits below : ℕ) (text : List ℕ) (n : ℕ) → positive_of digits below text ≡ Some n → (0 < n) × (n < below)
positive-range digits below text n e =
    let steps = between (digits_of text) (positive_from below) n (met (nat_le (length text) digits) (digits_of text >>= positive_from below) n e).1 in
    bounded steps.value below n steps.second_gives

-- 1 to 3 digits after the point are below one
worth-small : (places n : ℕ) → 0 < places → places ≤ 3 → n < 10 ^ places → n * last_digit_worth places < 1000
worth-small places n some few small =
    elim (cases_lt places 2) [
      | inl less ↦ let one : places ≡ 1 = omega arith in let s = subst (λ (k : ℕ). n < 10 ^ k) one small in subst (λ (k : ℕ). n * last_digit_worth k < 1000) (sym one) (omega (arith, s))
      | inr more ↦ elim (cases_lt places 3) [
        | inl less ↦ let two : places ≡ 2 = omega arith in let s = subst (λ (k : ℕ). n < 10 ^ k) two small in subst (λ (k : ℕ). n * last_digit_worth k < 1000) (sym two) (omega (arith, s))
        | inr last ↦ let three : places ≡ 3 = omega arith in let s = subst (λ (k : ℕ). n < 10 ^ k) three small in subst (λ (k : ℕ). n * last_digit_worth k < 1000) (sym three) (omega (arith, s))
      ]
    ]

part-range : (text : List ℕ) (n : ℕ) → thousandths_of text ≡ Some n → n < 1000
part-range text n e =
    let short = met (nat_le (length text) 3) (option_map (λ d. d * last_digit_worth (length text)) (digits_of text)) n e in
    let steps = mapped (digits_of text) (λ d. d * last_digit_worth (length text)) n short.1 in
    let bound = digits-bound text steps.value steps.first_gives in
    let same : steps.value * last_digit_worth (length text) ≡ n = cc (steps.second_gives) in
    subst (λ (v : ℕ). v < 1000) same (worth-small (length text) steps.value bound.some (leb-true (length text) 3 short.0) bound.places)

amount-by : (has : Bool) (before after text : List ℕ) (n : ℕ) →
    (if has then (digits_of before >>= (λ w. thousandths_of after >>= (λ p. Some (w * 1000 + p)))) else option_map (λ w. w * 1000) (digits_of text)) ≡ Some n → n < 1_000_000_000_000
amount-by true before after text n e =
    let first = between (digits_of before) (λ w. thousandths_of after >>= (λ p. Some (w * 1000 + p))) n e in
    let second = between (thousandths_of after) (λ p. Some (first.value * 1000 + p)) n first.second_gives in
    let whole = digits-bound before first.value first.first_gives in
    let part = part-range after second.value second.first_gives in
    let same : first.value * 1000 + second.value ≡ n = cc (second.second_gives) in
    omega (arith, whole.below)
amount-by false before after text n e =
    let steps = mapped (digits_of text) (λ w. w * 1000) n e in
    let whole = digits-bound text steps.value steps.first_gives in
    let same : steps.value * 1000 ≡ n = cc (steps.second_gives) in
    omega (arith, whole.below)

pub amount-range : (text : List ℕ) (n : ℕ) → amount_of text ≡ Some n → n < 1_000_000_000_000
amount-range text n e = amount-by (nat_lt (position_or_len is_point text) (length text)) (before_first is_point text) (after_first is_point text) text n e

pub day-range : (text : List ℕ) (day : ℤ) → day_of text ≡ Some day → IsDayNumber day
day-range text day e =
    let steps = between (digits_of text) day_at day (met (length text == 8) (digits_of text >>= day_at) day e).1 in
    day_at-in_range steps.value day steps.second_gives
