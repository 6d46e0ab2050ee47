use Rattle.std.proofs.Common.{arith}
use Rattle.std.proofs.lemmas.Grind.{common_steps}
use Rattle.onix_records.specs.Price.{price_of}
use Rattle.onix_records.proofs.PriceFields.{few-none}
use Rattle.onix_records.proofs.price.read_price.Goals as goal

pub returns-in_default : goal.returns-in_default
returns-in_default c = few-none (λ f. f.now) c.args.opening.now c.args.fields.now c.in_default.len_below

pub returns-in_err-minimum : goal.returns-in_err-minimum
unfolding price_of
returns-in_err-minimum c = grind (arith, common_steps)

pub returns : goal.returns
unfolding price_of
returns c = grind (arith, common_steps)
