use Rattle.std.proofs.Common.{refl, ◌+◌, arith}
use Rattle.std.specs.Str.Parse.{digits_value}
use Rattle.std.proofs.lemmas.Bool.{lt-ltb}
use Rattle.std.proofs.lemmas.Str.Parse.{digits_value-take-le}
use Rattle.csv_records.specs.RecordTexts.{limit}
use Rattle.http_requests.proofs.SizeLemmas.{one_digit_more}
use Rattle.http_requests.proofs.fields.value_within.Goals as goal

pub returns-then-value-gt-LIMIT-clause-value : goal.returns-then-value-gt-LIMIT-clause-value
returns-then-value-gt-LIMIT-clause-value c =
    let more = one_digit_more c.args.digits.now c.loop-digit.digit-index c.loop-digit.value c.requires c.loop-digit-test.true c.loop-digit.invariant.value in
    let least = digits_value-take-le 10 c.args.digits.now (c.loop-digit.digit-index + 1) (omega arith) in
    rw (lt-ltb limit (digits_value 10 c.args.digits.now) (omega (arith, c.if-value-gt-LIMIT.true, more, least))) refl

pub loop-digit-preserved : goal.loop-digit-preserved
loop-digit-preserved c = record {
  value = one_digit_more c.args.digits.now c.loop-digit.digit-index c.loop-digit.value c.requires c.loop-digit-test.true c.loop-digit.invariant.value;
  within = omega (arith, c.if-value-gt-LIMIT.false);
}
