-- What is left of an amount, by a discount and a tax.
use Rattle.std.specs.Prelude.{ℕ, List, ◌∷◌, ◌++◌, ◌+◌, ◌-◌, ◌*◌, ◌/◌, ◌%◌, nat_lt, decimal}
use Rattle.std.specs.Prelude.{if◌then◌else◌}
use Rattle.onix_terms.specs.Digits.{two_digits}

-- Of an amount in thousandths, without a tax and then less a discount, both in hundredths of a
-- percent, the hundredths of the currency: `amount · (10000 - discount) / (10000 + tax)`
-- thousandths, exactly, and then rounded, halves up.
abbrev pub rounded : ℕ → ℕ → ℕ → ℕ
rounded amount tax discount =
    (amount * (10_000 - discount) + 5 * (10_000 + tax)) / (10 * (10_000 + tax))

-- what is written, in thousandths: that; or the amount without its third decimal, where it would be
-- more than the amount
abbrev pub net_amount : ℕ → ℕ → ℕ → ℕ
net_amount amount tax discount =
    if nat_lt amount (10 * rounded amount tax discount) then 10 * (amount / 10)
    else 10 * rounded amount tax discount

-- an amount with two decimals
abbrev pub two_decimals : ℕ → List ℕ
two_decimals n = decimal (n / 1000) ++ 46 ∷ two_digits (n % 1000 / 10)
