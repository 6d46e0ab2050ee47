use Rattle.std.proofs.Common.{rules, ◌≡◌, ◌<◌, ◌≤◌, ◌∙◌, ◌^◌, Option, List, ℕ, true, arith, ap, sym, length, Some}
use Rattle.std.proofs.lemmas.Str.Parse.{parse_gives, digits_value_short}
use Rattle.std.specs.Prelude.{IfSome}
use Rattle.std.specs.Result.{result_ok}
use Rattle.std.specs.List.{list_all}
use Rattle.std.specs.Char.{is_ascii_digit}
use Rattle.std.specs.Str.Parse.{digits_value}
use Rattle.onix_terms.specs.Digits.{digits_of}
use Rattle.onix_terms.proofs.DigitTexts.{own, digits-some}
use Rattle.onix_terms.proofs.digits.read_digits.Goals as goal

-- what a parse of such a text gives
parsed : (text : List ℕ) (number : Option ℕ) → 0 < length text → length text ≤ 9 → list_all is_ascii_digit text ≡ true → number ≡ Some (digits_value 10 text) →
    (number ≡ digits_of text) × IfSome number (λ n. n < 10 ^ length text) × IfSome number (λ n. n < 1_000_000_000)
parsed text number some few all is =
    let value : number ≡ digits_of text = is ∙ sym (digits-some text some few all) in
    let places : digits_value 10 text < 10 ^ length text = digits_value_short own text (length text) all (omega arith) in
    let below : digits_value 10 text < 10 ^ 9 = digits_value_short own text 9 all few in
    (value, rw is places, rw is below)

pub returns : goal.returns
returns c =
    let all : list_all is_ascii_digit c.args.text.now ≡ true = sym (c.if-not-are_digits.ensures ∙ ap (list_all is_ascii_digit) c.as_bytes.ensures.value) in
    let some : 0 < length c.args.text.now = search rules in
    let short = digits_value_short own c.args.text.now 9 all (omega arith) in
    let number = parse_gives own 32 c.args.text.now c.parse.result c.parse.ensures.value.0 all some (omega (arith, short)) in
    let facts = parsed c.args.text.now c.ok.result some (omega arith) all (c.ok.ensures.value ∙ ap result_ok number) in
    record { value = facts.0; places = facts.1; below = facts.2 }
