use Rattle.std.proofs.Common.{◌<◌, ◌≤◌, ◌+◌, ◌-◌, ◌*◌, ◌/◌, ℕ, arith}
use Rattle.feed_terms.proofs.laws.amount_is_rounded.Goals as goal

between : (x w : ℕ) → 0 < w → (10 * (x / (10 * w)) * w ≤ x) × (x < 10 * (x / (10 * w) + 1) * w)
between x w some =
    let above : 0 < 10 * w = omega arith in
    (omega arith, omega arith)

pub returns : goal.returns
returns c = λ amount tax discount. between (amount * (10_000 - discount) + 5 * (10_000 + tax)) (10_000 + tax) (omega arith)
