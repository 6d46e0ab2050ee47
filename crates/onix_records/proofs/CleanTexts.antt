-- Written fields are short and have no control character.
use Rattle.std.proofs.Common.{◌≡◌, ◌≤◌, ◌<◌, ◌∷◌, ◌∙◌, ◌+◌, ◌/◌, ◌%◌, ◌^◌, [], ℕ, ℤ, List, Bool, true, false, Some, None, refl, arith, length, length-append, lit<, rules}
use Rattle.std.specs.Prelude.{◌&&◌, ◌==◌, nat_le, nat_lt, not, decimal, if◌then◌else◌}
use Rattle.std.specs.Char.{is_ascii_digit, is_ascii_uppercase}
use Rattle.std.specs.List.{list_all}
use Rattle.std.specs.Str.Parse.{digits_value, digits_value_after}
use Rattle.std.proofs.lemmas.Str.Parse.{IsNumeralModel, numerals_by_fold}
use Rattle.std.proofs.lemmas.Bool.{and_from, and_parts, eqb-true, le-leb, leb-true}
use Rattle.std.proofs.lemmas.Bool.Decides.{nat_tests}
use Rattle.std.proofs.lemmas.Fmt.{digits_decimal, length-decimal-le}
use Rattle.std.proofs.lemmas.List.Folds.{list_all-append}
use Rattle.std.proofs.lemmas.Option.{cond_some}
use Rattle.onix_terms.specs.Amount.{amount_text, three_digits}
use Rattle.onix_terms.specs.Code.{fixed_text}
use Rattle.onix_terms.specs.Day.{day_at, day_of, day_text}
use Rattle.onix_terms.specs.Digits.{digits_of}
use Rattle.onix_terms.specs.Options.{◌>>=◌}
use Rattle.onix_terms.specs.Territory.{is_letter_or_space}
use Rattle.onix_records.specs.Fields.{is_clean, is_control}
use Rattle.onix_records.proofs.FrontRows.{bind-some}

-- no control character
abbrev pub plain_byte : ℕ → Bool
plain_byte b = not (is_control b)

all-weaker : (p q : ℕ → Bool) → ((b : ℕ) → p b ≡ true → q b ≡ true) → (bs : List ℕ) → list_all p bs ≡ true → list_all q bs ≡ true
all-weaker p q f [] h = refl
all-weaker p q f (b ∷ bs) h = let r = and_parts (p b) (list_all p bs) h in and_from (q b) (list_all q bs) (f b r.0) (all-weaker p q f bs r.1)

digit-plain : (b : ℕ) → is_ascii_digit b ≡ true → plain_byte b ≡ true
digit-plain b h = grind (arith, nat_tests, h)

capital-plain : (b : ℕ) → is_ascii_uppercase b ≡ true → plain_byte b ≡ true
capital-plain b h = grind (arith, nat_tests, h)

pub clean-of : (text : List ℕ) → length text ≤ 1024 → list_all plain_byte text ≡ true → is_clean text ≡ true
clean-of text short all = and_from _ _ (le-leb (length text) 1024 short) all

letter-plain : (b : ℕ) → is_letter_or_space b ≡ true → plain_byte b ≡ true
letter-plain b h = grind (arith, nat_tests, h)

-- letters and spaces in place of a clean field are clean where they are no longer
pub letters-clean : (field text : List ℕ) → is_clean field ≡ true → length text ≤ length field → list_all is_letter_or_space text ≡ true → is_clean text ≡ true
letters-clean field text clean small all =
    let short = leb-true (length field) 1024 (and_parts _ _ clean).0 in
    clean-of text (omega (arith, short, small)) (all-weaker is_letter_or_space plain_byte letter-plain text all)

-- a text that is read as digits is a few digits
pub digits-are : (text : List ℕ) (n : ℕ) → digits_of text ≡ Some n → (length text ≤ 9) × (list_all is_ascii_digit text ≡ true)
digits-are text n e =
    let t = (cond_some (nat_lt 0 (length text) && nat_le (length text) 9 && list_all is_ascii_digit text) (digits_value 10 text) n e).0 in
    let p = and_parts (nat_lt 0 (length text) && nat_le (length text) 9) (list_all is_ascii_digit text) t in
    let q = and_parts (nat_lt 0 (length text)) (nat_le (length text) 9) p.0 in
    (leb-true (length text) 9 q.1, p.1)

pub digits-clean : (text : List ℕ) (n : ℕ) → digits_of text ≡ Some n → is_clean text ≡ true
digits-clean text n e =
    let d = digits-are text n e in
    let short = d.0 in
    clean-of text (omega (arith, short)) (all-weaker is_ascii_digit plain_byte digit-plain text d.1)

-- a code is clean
fixed-clean : (allowed : ℕ → Bool) → ((b : ℕ) → allowed b ≡ true → plain_byte b ≡ true) → (size : ℕ) → size ≤ 9 → (text code : List ℕ) → fixed_text allowed size text ≡ Some code → is_clean text ≡ true
fixed-clean allowed f size small text code e =
    let t = (cond_some ((length text == size) && list_all allowed text) text code e).0 in
    let p = and_parts (length text == size) (list_all allowed text) t in
    let l = eqb-true (length text) size p.0 in
    clean-of text (omega (arith, l, small)) (all-weaker allowed plain_byte f text p.1)

pub code2-clean : (text code : List ℕ) → fixed_text is_ascii_digit 2 text ≡ Some code → is_clean text ≡ true
code2-clean text code e = fixed-clean is_ascii_digit digit-plain 2 (omega arith) text code e

pub currency-clean : (text code : List ℕ) → fixed_text is_ascii_uppercase 3 text ≡ Some code → is_clean text ≡ true
currency-clean text code e = fixed-clean is_ascii_uppercase capital-plain 3 (omega arith) text code e

own : IsNumeralModel (λ ds. list_all is_ascii_digit ds ≡ true) (digits_value 10)
own = numerals_by_fold _ (search rules) (digits_value_after 10) (search rules)

plain-digit : (d : ℕ) → d < 10 → plain_byte (48 + d) ≡ true
plain-digit d small = grind (arith, nat_tests)

three-plain : (n : ℕ) → n < 1000 → list_all plain_byte (three_digits n) ≡ true
three-plain n small =
    and_from _ _ (plain-digit (n / 100) (omega arith)) (and_from _ _ (plain-digit (n % 100 / 10) (omega arith)) (and_from _ _ (plain-digit (n % 100 % 10) (omega arith)) refl))

pub amount-clean : (n : ℕ) → n < 1_000_000_000_000 → is_clean (amount_text n) ≡ true
amount-clean n small =
    let wide : n / 1000 < 2 ^ 64 = omega arith in
    let whole : list_all is_ascii_digit (decimal (n / 1000)) ≡ true = digits_decimal own (n / 1000) wide in
    let few : length (decimal (n / 1000)) ≤ 9 = length-decimal-le 9 (n / 1000) (lit< tt) (omega arith) wide in
    let l = length-append (decimal (n / 1000)) (46 ∷ three_digits (n % 1000)) in
    clean-of (amount_text n) (omega (arith, few, l))
    (list_all-append plain_byte (decimal (n / 1000)) (46 ∷ three_digits (n % 1000))
    ∙ and_from _ _ (all-weaker is_ascii_digit plain_byte digit-plain (decimal (n / 1000)) whole) (three-plain (n % 1000) (omega arith)))

eight-digits : (test : Bool) (text : List ℕ) (day : ℤ) → (if test then digits_of text >>= day_at else None) ≡ Some day → (n : ℕ) × (digits_of text ≡ Some n)
eight-digits false text day e = cc e
eight-digits true text day e = let (n, reads, _) = bind-some (digits_of text) day_at day e in (n, reads)

pub day-clean : (day : ℤ) → day_of (day_text day) ≡ Some day → is_clean (day_text day) ≡ true
day-clean day e = let (n, reads) = eight-digits (length (day_text day) == 8) (day_text day) day e in digits-clean (day_text day) n reads
