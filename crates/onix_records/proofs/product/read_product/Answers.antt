use Rattle.std.proofs.Common.{arith}
use Rattle.std.proofs.lemmas.Grind.{common_steps}
use Rattle.onix_records.specs.Product.{product_of}
use Rattle.onix_records.proofs.product.read_product.Goals as goal

pub returns-in_err-ids : goal.returns-in_err-ids
unfolding product_of
returns-in_err-ids c = grind (arith, common_steps)

pub returns : goal.returns
unfolding product_of
returns c = grind (arith, common_steps)
