use Rattle.std.proofs.Common.{◌≡◌, ◌∙◌, length, ap, arith}
use Rattle.onix_terms.proofs.amount.Amount.write.Goals as goal

pub returns-in_err-push_str-2-clause-err : goal.returns-in_err-push_str-2-clause-err
returns-in_err-push_str-2-clause-err c =
    let four : length c.text_of.result.now ≡ 4 = ap length (c.text_of.ensures ∙ c.decimals_of-decimals.ensures.digits) in
    absurd (omega (arith, c.in_ok-reserve.ensures.ok, c.in_ok-push_str.ensures.len, c.in_err-push_str-2.ensures.full))
