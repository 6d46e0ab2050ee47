use Rattle.std.proofs.Common.{arith}
use Rattle.std.proofs.lemmas.Grind.{common_steps}
use Rattle.onix_records.proofs.term.read_or_default.Goals as goal

pub returns-then-is_empty : goal.returns-then-is_empty
returns-then-is_empty g c = (c.parse-parsed.result, c.parse-parsed.ensures.value, grind (arith, common_steps))

pub returns-in_err-parsed : goal.returns-in_err-parsed
returns-in_err-parsed g c = (c.parse-parsed.result, c.parse-parsed.ensures.value, grind (arith, common_steps))

pub returns : goal.returns
returns g c = (c.parse-parsed.result, c.parse-parsed.ensures.value, grind (arith, common_steps))
