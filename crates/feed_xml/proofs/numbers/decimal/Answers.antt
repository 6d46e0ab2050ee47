use Rattle.std.proofs.Common.{arith}
use Rattle.feed_xml.proofs.NumberLaws.{decimal_first}
use Rattle.feed_xml.proofs.numbers.decimal.Goals as goal

pub returns-then-number-gt-GREATEST : goal.returns-then-number-gt-GREATEST
returns-then-number-gt-GREATEST c =
    omega (arith, decimal_first c.loop-rest.number c.loop-rest.rest.now c.in-len1-up.len_at_least, c.loop-rest.invariant.so_far, c.digit_value.ensures.value, c.if-number-gt-GREATEST.true)
