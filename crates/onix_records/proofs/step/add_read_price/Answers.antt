use Rattle.std.proofs.Common.{refl}
use Rattle.onix_records.specs.declared.row.Row.TheVariants as row
use Rattle.onix_records.proofs.StepsOfRows.{failed-steps, made-steps}
use Rattle.onix_records.proofs.step.add_read_price.Goals as goal

pub returns : goal.returns
returns c = λ before. made-steps row.Price _ c.in_ok-read_price.field-0 _ _ before _ c.in_ok-read_price.ensures refl c.add_price.ensures.added c.add_price.ensures.refused

pub returns-in_err-read_price : goal.returns-in_err-read_price
returns-in_err-read_price c = λ before. failed-steps row.Price _ c.in_err-read_price.field-0.0 _ c.args.draft.now before _ c.in_err-read_price.ensures c.from_residual.ensures.1
