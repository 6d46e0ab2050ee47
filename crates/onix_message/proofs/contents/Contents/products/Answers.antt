use Rattle.std.proofs.Common.{◌≤◌, List, arith, length, subst}
use Rattle.std.specs.List.{All}
use Rattle.onix_records.proofs.DetailCounts.{details-within}
use Rattle.onix_records.proofs.OneText.{contents-few}
use Rattle.onix_records.proofs.RowLists.{length-products}
use Rattle.onix_records.specs.DetailCount.{detail_count}
use Rattle.onix_records.specs.PartRows.{content_rows}
use Rattle.onix_records.specs.declared.parts.Product.{Product}
use Rattle.onix_message.proofs.contents.Contents.products.Goals as goal

pub returns-clause-few : goal.returns-clause-few
returns-clause-few c =
    let most : length (content_rows c.self.inside.products) ≤ 19998 = contents-few c.self.inside.products c.self.invariant in
    let each = length-products c.self.inside.products in
    rw (← c.self.view_is) (omega (arith, most, each))

pub returns-clause-few_rows : goal.returns-clause-few_rows
returns-clause-few_rows c =
    subst (λ (ps : List Product). length (content_rows ps) ≤ 19998) c.self.view_is (contents-few c.self.inside.products c.self.invariant)

pub returns-clause-few_details : goal.returns-clause-few_details
returns-clause-few_details c =
    let most : length (content_rows c.self.inside.products) ≤ 19998 = contents-few c.self.inside.products c.self.invariant in
    subst (λ (ps : List Product). All (λ p. detail_count p.supplies ≤ 19998) ps) c.self.view_is
    (details-within 19998 c.self.inside.products most)
