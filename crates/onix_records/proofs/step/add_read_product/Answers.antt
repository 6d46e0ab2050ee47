use Rattle.std.proofs.Common.{refl}
use Rattle.onix_records.specs.declared.row.Row.TheVariants as row
use Rattle.onix_records.proofs.Bare.{product-bare}
use Rattle.onix_records.proofs.StepsOfRows.{failed-steps, made-steps}
use Rattle.onix_records.proofs.step.add_read_product.Goals as goal

pub add_product-requires-clause-bare : goal.add_product-requires-clause-bare
add_product-requires-clause-bare c = product-bare _ _ c.in_ok-read_product.ensures

pub returns : goal.returns
returns c = λ before. made-steps row.Product _ c.in_ok-read_product.field-0 _ _ before _ c.in_ok-read_product.ensures refl c.add_product.ensures.added c.add_product.ensures.refused

pub returns-in_err-read_product : goal.returns-in_err-read_product
returns-in_err-read_product c = λ before. failed-steps row.Product _ c.in_err-read_product.field-0.0 _ c.args.draft.now before _ c.in_err-read_product.ensures c.from_residual.ensures.1
