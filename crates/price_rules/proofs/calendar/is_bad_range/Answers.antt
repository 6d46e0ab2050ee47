use Rattle.std.proofs.Common.{◌≡◌, ◌↔◌, ℤ, pos, ◌-ℤ◌, ◌≤ℤ◌, false, IsTrue, w32, to_z, of_z, arith}
use Rattle.std.proofs.lemmas.Int.{ints}
use lib.Signed.{le_z, lt_z}
use Rattle.onix_terms.specs.Day.{IsDayNumber}
use Rattle.price_rules.specs.Calendar.{IsBadRange, is_bad_range}
use Rattle.price_rules.proofs.calendar.is_bad_range.Goals as goal

-- a number that is passed through its 32 bits
abbrev through : ℤ → ℤ
through z = to_z w32 (of_z w32 z)

long_test : (from to days : ℤ) → days ≡ to -ℤ from → from ≤ℤ to → le_z (pos 3_660) days ≡ is_bad_range from to
long_test from to days e up = grind (arith, ints)

long_is_bad : (from to days : ℤ) → days ≡ to -ℤ from → from ≤ℤ to → IsTrue (le_z (pos 3_660) days) ↔ IsBadRange from to
long_is_bad from to days e up = (λ h. grind (arith, ints), λ h. grind (arith, ints))

days_between : (from to first last : ℤ) → first ≡ from → last ≡ to → IsDayNumber first → IsDayNumber last → lt_z (through last) (through first) ≡ false
    → (through (through last -ℤ through first) ≡ to -ℤ from) × (from ≤ℤ to)
days_between from to first last e k f l up = (omega (arith, ints), grind (arith, ints))

pub returns-else-last-first-clause-value : goal.returns-else-last-first-clause-value
returns-else-last-first-clause-value c =
    let days = days_between c.args.from c.args.to c.number-first.result c.number-last.result c.number-first.ensures.value c.number-last.ensures.value c.number-first.ensures.range c.number-last.ensures.range c.if-last-first.false in
    long_test c.args.from c.args.to _ days.0 days.1

pub returns-else-last-first-clause-meaning : goal.returns-else-last-first-clause-meaning
returns-else-last-first-clause-meaning c =
    let days = days_between c.args.from c.args.to c.number-first.result c.number-last.result c.number-first.ensures.value c.number-last.ensures.value c.number-first.ensures.range c.number-last.ensures.range c.if-last-first.false in
    long_is_bad c.args.from c.args.to _ days.0 days.1
