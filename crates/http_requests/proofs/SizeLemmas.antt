-- The number that digits write, one digit after the other.
use Rattle.std.proofs.Common.{◌≡◌, ◌<◌, ◌+◌, ◌-◌, ◌*◌, ℕ, List, true, arith, length, take, get_or, slice_index_or}
use Rattle.std.specs.Prelude.{nat_le}
use Rattle.std.specs.List.{list_all}
use Rattle.std.specs.Char.{is_ascii_digit, digit_value}
use Rattle.std.specs.Str.Parse.{digits_value}
use Rattle.std.proofs.lemmas.Bool.{and_parts, leb-true}
use Rattle.std.proofs.lemmas.Int.Digits.{digits_value_more}
use Rattle.std.proofs.lemmas.Str.{digit_value_digit}
use Rattle.std.proofs.lemmas.List.Sums.{AllPass-from_list_all}

digit_worth : (c : ℕ) → is_ascii_digit c ≡ true → digit_value c ≡ c - 48
digit_worth c is =
    let both = and_parts (nat_le 48 c) (nat_le c 57) is in
    let worth : digit_value c + 48 ≡ c = digit_value_digit c (leb-true 48 c both.0, leb-true c 57 both.1) in
    omega (arith, worth)

pub one_digit_more : (digits : List ℕ) (i value : ℕ) → list_all is_ascii_digit digits ≡ true → i < length digits
    → value ≡ digits_value 10 (take i digits)
    → value * 10 + (slice_index_or digits i 0 - 48) ≡ digits_value 10 (take (i + 1) digits)
one_digit_more digits i value all short is =
    let here : is_ascii_digit (get_or digits i 0) ≡ true = AllPass-from_list_all is_ascii_digit digits all i 0 short in
    omega (arith, is, digits_value_more 10 digits i short, digit_worth (get_or digits i 0) here)
