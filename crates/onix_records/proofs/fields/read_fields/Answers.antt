use Rattle.std.proofs.Common.{true, false}
use Rattle.onix_records.proofs.CleanFields.{record-clean, record-long}
use Rattle.onix_records.proofs.fields.read_fields.Goals as goal

pub returns-then-not-are_short-clause-wrong : goal.returns-then-not-are_short-clause-wrong
returns-then-not-are_short-clause-wrong c = λ _. record-long c.args.from.now _ _ c.in_ok-fill.ensures c.as_slice.ensures.value c.if-not-are_short.ensures

pub returns-then-has_no_control-clause-clean : goal.returns-then-has_no_control-clause-clean
returns-then-has_no_control-clause-clean c =
    record-clean c.args.from.now _ _ _ true true c.in_ok-fill.ensures c.as_slice.ensures.value c.as_bytes.ensures c.if-not-are_short.ensures c.if-has_no_control.ensures

pub returns-else-has_no_control-clause-wrong : goal.returns-else-has_no_control-clause-wrong
returns-else-has_no_control-clause-wrong c = λ _.
    record-clean c.args.from.now _ _ _ true false c.in_ok-fill.ensures c.as_slice.ensures.value c.as_bytes.ensures c.if-not-are_short.ensures c.if-has_no_control.ensures
