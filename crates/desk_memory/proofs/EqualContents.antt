-- Contents are equal to themselves.
use Rattle.std.proofs.Common.{◌≡◌, List, true, refl}
use Rattle.std.specs.Cmp.Lexicographic.{pointwise_decides}
use Rattle.onix_records.specs.SameContents.{same_contents, same_product-Decides}
use Rattle.onix_records.specs.declared.parts.Product.{Product}

pub same_contents_itself : (c : List Product) → same_contents c c ≡ true
unfolding same_contents
same_contents_itself c = (pointwise_decides same_product-Decides c c).1 refl
