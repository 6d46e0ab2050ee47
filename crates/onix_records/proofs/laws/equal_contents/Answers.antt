use Rattle.std.proofs.Common.{List}
use Rattle.std.specs.Cmp.Lexicographic.{pointwise_decides}
use Rattle.onix_records.specs.SameContents.{same_contents, same_product-Decides}
use Rattle.onix_records.specs.declared.parts.Product.{Product}
use Rattle.onix_records.proofs.laws.equal_contents.Goals as goal

pub returns : goal.returns
unfolding same_contents
returns c = record {
  passed = λ (c d : List Product). (pointwise_decides same_product-Decides c d).0;
  equal = λ (c d : List Product). (pointwise_decides same_product-Decides c d).1;
}
