-- The record of a computed price is read back as that price.
use Rattle.std.proofs.Common.{◌≡◌, ◌<◌, ◌≤◌, ◌+◌, ◌*◌, ◌/◌, ◌%◌, ◌^◌, ◌∙◌, lit<, lit≤, ℕ, ℤ, List, [], ◌∷◌, ◌++◌, Bool, true, false, cond, Option, Some, None, arith, ap, refl, sym, subst, length, take, drop}
use Rattle.std.specs.Prelude.{◌&&◌, decimal, nat_lt, option_map, if◌then◌else◌}
use Rattle.std.specs.List.{after_first, before_first, list_all, position_or_len}
use Rattle.std.specs.Char.{is_ascii_digit}
use Rattle.std.specs.Str.Parse.{digits_value}
use Rattle.std.proofs.lemmas.List.{length-append}
use Rattle.std.proofs.lemmas.Bool.{and_parts}
use Rattle.std.proofs.lemmas.Bool.Decides.{nat_tests}
use Rattle.std.proofs.lemmas.Fmt.{decimal_nonempty, digits_decimal}
use Rattle.std.proofs.lemmas.Option.{same_Some}
use Rattle.std.proofs.Math.Seq.{drop-append-add, take-append_seam}
use Rattle.onix_terms.specs.Amount.{amount_of, is_point, thousandths_of}
use Rattle.onix_terms.specs.Code.{code2_of, currency_of}
use Rattle.onix_terms.specs.Day.{day_of}
use Rattle.onix_terms.specs.Digits.{digits_of, two_digits}
use Rattle.onix_terms.specs.Options.{◌>>=◌}
use Rattle.onix_terms.specs.Quantity.{quantity_of}
use Rattle.onix_terms.specs.Territory.{territory_of}
use Rattle.onix_terms.specs.declared.territory.Territory.{Territory}
use Rattle.onix_terms.proofs.DigitTexts.{digits-decimal, digits-some, own, two-after, two-digits}
use Rattle.onix_terms.proofs.ReadBack.{quantity-decimal}
use Rattle.onix_records.specs.Fields.{optional, or_default}
use Rattle.onix_records.specs.Price.{minimum_fields, minimum_of, price_from, price_of, quantity_or_one}
use Rattle.onix_records.specs.declared.parts.Price.{Price}
use Rattle.onix_records.specs.declared.row.Form.{Form}
use Rattle.onix_records.specs.declared.row.Form.TheVariants as form
use Rattle.onix_records.specs.declared.row.Opening.{Opening}
use Rattle.onix_records.proofs.FrontRows.{bind-some}
use Rattle.feed_terms.specs.Amounts.{two_decimals}
use Rattle.feed_terms.specs.Laws.{IsWritable}
use Rattle.feed_terms.specs.WithTerms.{computed_record, price_of_computed}
use Rattle.feed_terms.specs.declared.computed.ComputedPrice.{ComputedPrice}

-- ---- an amount with two decimals

no-point : (b : ℕ) → is_ascii_digit b ≡ true → is_point b ≡ false
no-point b digit = grind (arith, nat_tests, digit)

point-after : (ds rest : List ℕ) → list_all is_ascii_digit ds ≡ true → position_or_len is_point (ds ++ 46 ∷ rest) ≡ length ds
point-after [] rest all = refl
point-after (d ∷ ds) rest all =
    let parts = and_parts (is_ascii_digit d) (list_all is_ascii_digit ds) all in
    let more = point-after ds rest parts.1 in
    let other : is_point d ≡ false = no-point d parts.0 in
    rw other (omega (arith, more))

joined : (has : Bool) (before after whole part : List ℕ) (other : Option ℕ) (w p : ℕ) → has ≡ true → before ≡ whole → after ≡ part → digits_of whole ≡ Some w → thousandths_of part ≡ Some p →
    (if has then (digits_of before >>= (λ x. thousandths_of after >>= (λ y. Some (x * 1000 + y)))) else other) ≡ Some (w * 1000 + p)
joined has before after whole part other w p there left right dw dp = rw (there, left, right, dw, dp) refl

read-parts : (whole part : List ℕ) (w p : ℕ) → list_all is_ascii_digit whole ≡ true → digits_of whole ≡ Some w → thousandths_of part ≡ Some p → amount_of (whole ++ 46 ∷ part) ≡ Some (w * 1000 + p)
read-parts whole part w p all dw dp =
    let at : position_or_len is_point (whole ++ 46 ∷ part) ≡ length whole = point-after whole part all in
    let long : length (whole ++ 46 ∷ part) ≡ length whole + length (46 ∷ part) = length-append whole (46 ∷ part) in
    let there : nat_lt (position_or_len is_point (whole ++ 46 ∷ part)) (length (whole ++ 46 ∷ part)) ≡ true = grind (arith, nat_tests, at, long) in
    let left : before_first is_point (whole ++ 46 ∷ part) ≡ whole = ap (λ n. take n (whole ++ 46 ∷ part)) at ∙ take-append_seam whole (46 ∷ part) in
    let right : after_first is_point (whole ++ 46 ∷ part) ≡ part = ap (λ n. drop (n + 1) (whole ++ 46 ∷ part)) at ∙ drop-append-add whole (46 ∷ part) 1 in
    joined _ _ _ whole part _ w p there left right dw dp

two-some : (n : ℕ) → n < 100 → digits_of (two_digits n) ≡ Some n
two-some n small =
    let value : digits_value 10 (two_digits n) ≡ 0 * 100 + n = two-after 0 n [] small in
    digits-some (two_digits n) (lit< tt) (lit≤ tt) (two-digits n [] small) ∙ ap (λ v. Some v) (omega (arith, value))

pub decimals-back : (n : ℕ) → n < 1_000_000_000_000 → n % 10 ≡ 0 → amount_of (two_decimals n) ≡ Some n
decimals-back n small whole =
    let wide : n / 1000 < 2 ^ 64 = omega arith in
    let decimals : thousandths_of (two_digits (n % 1000 / 10)) ≡ Some (n % 1000 / 10 * 10) = ap (λ o. option_map (λ p. p * 10) o) (two-some (n % 1000 / 10) (omega arith)) in
    read-parts (decimal (n / 1000)) (two_digits (n % 1000 / 10)) (n / 1000) (n % 1000 / 10 * 10) (digits_decimal own (n / 1000) wide) (digits-decimal (n / 1000) (omega arith)) decimals
    ∙ ap (λ v. Some v) (omega arith)

-- ---- a minimum

quantity-there : (text : List ℕ) → 0 < length text → quantity_or_one text ≡ quantity_of text
quantity-there [] some = absurd (omega (arith, some))
quantity-there (b ∷ bs) some = refl

minimum-back : (m : ℕ) → 0 < m → m < 1_000_000 → minimum_of form.Two (minimum_fields m) ≡ Some m
minimum-back m some small = go (nat_lt 1 m) refl
  where
    go : (b : Bool) → nat_lt 1 m ≡ b → minimum_of form.Two (if b then decimal m ∷ [] else []) ≡ Some m
    go true e = quantity-there (decimal m) (decimal_nonempty m (omega arith)) ∙ quantity-decimal m some small
    go false e = let one : 1 ≡ m = grind (arith, nat_tests) in ap (λ n. Some n) one

-- ---- the fields

code-there : (default : Option (List ℕ)) (code : List ℕ) → code2_of code ≡ Some code → or_default code2_of default code ≡ Some code
code-there default [] e = cc e
code-there default (b ∷ bs) e = e

-- what is read of six fields and a minimum
abbrev built : ℕ → Option (List ℕ) → Option ℕ → Option (List ℕ) → Option Territory → Option (Option ℤ) → Option (Option ℤ) → Option Price
built m T A C Z F U =
    T >>= (λ t. A >>= (λ a. C >>= (λ c. Z >>= (λ z. F >>= (λ f. U >>= (λ u. Some (record {
      price_type = t;
      amount = a;
      currency = c;
      territory = z;
      minimum = m;
      from = f;
      until = u;
    })))))))

-- another type, amount and minimum
swap : (T : Option (List ℕ)) (A : Option ℕ) (C : Option (List ℕ)) (Z : Option Territory) (F U : Option (Option ℤ)) (m n a : ℕ) (t : List ℕ) (p : Price) → built m T A C Z F U ≡ Some p
    → built n (Some t) (Some a) C Z F U ≡ Some (record p { price_type = t; amount = a; minimum = n })
swap None A C Z F U m n a t p e = cc e
swap (Some x) None C Z F U m n a t p e = cc e
swap (Some x) (Some y) None Z F U m n a t p e = cc e
swap (Some x) (Some y) (Some c) None F U m n a t p e = cc e
swap (Some x) (Some y) (Some c) (Some z) None U m n a t p e = cc e
swap (Some x) (Some y) (Some c) (Some z) (Some f) None m n a t p e = cc e
swap (Some x) (Some y) (Some c) (Some z) (Some f) (Some u) m n a t p e =
    ap (λ (q : Price). Some (record q { price_type = t; amount = a; minimum = n })) (same_Some _ p e)

-- what is read, where a minimum, a type and an amount are
read-of : (M : Option ℕ) (T : Option (List ℕ)) (A : Option ℕ) (C : Option (List ℕ)) (Z : Option Territory) (F U : Option (Option ℤ)) (n a : ℕ) (t : List ℕ) (q : Price) → M ≡ Some n → T ≡ Some t → A ≡ Some a
    → built n (Some t) (Some a) C Z F U ≡ Some q → (M >>= (λ m. built m T A C Z F U)) ≡ Some q
read-of M T A C Z F U n a t q is_m is_t is_a e = rw (is_m, is_t, is_a) e

pub price-back : (o : Opening) (name : List ℕ) (fields : List (List ℕ)) (p : Price) (c : ComputedPrice) → o.form ≡ form.Two → price_of o fields ≡ Some p → IsWritable c
    → price_of o (drop 1 (computed_record (name ∷ fields) c)) ≡ Some (price_of_computed p c)
unfolding price_of price_from
price-back o name (t ∷ a ∷ cu ∷ i ∷ r ∷ x ∷ f ∷ u ∷ more) p c two read is =
    let (m, here, from) = bind-some (minimum_of o.form more) _ p read in
    let minimum : minimum_of o.form (minimum_fields c.minimum) ≡ Some c.minimum = ap (λ k. minimum_of k (minimum_fields c.minimum)) two ∙ minimum-back c.minimum is.some is.small in
    let type : or_default code2_of o.header.default_type c.price_type ≡ Some c.price_type = code-there o.header.default_type c.price_type is.code in
    let amount : amount_of (two_decimals c.amount) ≡ Some c.amount = decimals-back c.amount is.below is.whole in
    let C = or_default currency_of o.header.default_currency cu in
    let Z = territory_of i r x in
    let F = optional day_of f in
    let U = optional day_of u in
    read-of (minimum_of o.form (minimum_fields c.minimum)) (or_default code2_of o.header.default_type c.price_type) (amount_of (two_decimals c.amount)) C Z F U c.minimum c.amount c.price_type _ minimum type amount
    (swap (or_default code2_of o.header.default_type t) (amount_of a) C Z F U m c.minimum c.amount c.price_type p from)
price-back o name [] p c two read is = cc read
price-back o name (t ∷ []) p c two read is = cc read
price-back o name (t ∷ a ∷ []) p c two read is = cc read
price-back o name (t ∷ a ∷ cu ∷ []) p c two read is = cc read
price-back o name (t ∷ a ∷ cu ∷ i ∷ []) p c two read is = cc read
price-back o name (t ∷ a ∷ cu ∷ i ∷ r ∷ []) p c two read is = cc read
price-back o name (t ∷ a ∷ cu ∷ i ∷ r ∷ x ∷ []) p c two read is = cc read
price-back o name (t ∷ a ∷ cu ∷ i ∷ r ∷ x ∷ f ∷ []) p c two read is = cc read
