-- Numbers only grow by more digits.
use Rattle.std.proofs.Common.{ℕ, ◌+◌, ◌*◌, ◌≤◌, List, [], ◌∷◌, length, get_or, arith}
use Rattle.feed_xml.specs.Characters.{digit_value, in_base}

pub decimal_grows : (n : ℕ) (digits : List ℕ) → n ≤ in_base 10 n digits
decimal_grows n [] = omega arith
decimal_grows n (b ∷ digits) = omega (arith, decimal_grows (10 * n + digit_value b) digits)

pub hexadecimal_grows : (n : ℕ) (digits : List ℕ) → n ≤ in_base 16 n digits
hexadecimal_grows n [] = omega arith
hexadecimal_grows n (b ∷ digits) = omega (arith, hexadecimal_grows (16 * n + digit_value b) digits)

-- with its first digit a number is no less
pub decimal_first : (n : ℕ) (digits : List ℕ) → 1 ≤ length digits → 10 * n + digit_value (get_or digits 0 0) ≤ in_base 10 n digits
decimal_first n [] some = absurd (omega (arith, some))
decimal_first n (b ∷ digits) some = decimal_grows (10 * n + digit_value b) digits

pub hexadecimal_first : (n : ℕ) (digits : List ℕ) → 1 ≤ length digits → 16 * n + digit_value (get_or digits 0 0) ≤ in_base 16 n digits
hexadecimal_first n [] some = absurd (omega (arith, some))
hexadecimal_first n (b ∷ digits) some = hexadecimal_grows (16 * n + digit_value b) digits
