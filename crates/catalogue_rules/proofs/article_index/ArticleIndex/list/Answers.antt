use Rattle.std.proofs.Common.{subst, ◌∙◌}
use Rattle.std.specs.List.{All}
use Rattle.std.proofs.lemmas.List.{take_all}
use Rattle.onix_records.specs.declared.parts.Product.{Product}
use Rattle.catalogue_rules.specs.ArticleIndex.{ListsArticles}
use Rattle.catalogue_rules.proofs.ArticleIndexes.{lists_message, lists_more}
use Rattle.catalogue_rules.proofs.article_index.ArticleIndex.list.Goals as goal

pub returns-clause-ok : goal.returns-clause-ok
returns-clause-ok c = λ m is.
    let now = c.loop-product.self.listings in
    let P = λ (p : Product). ListsArticles now p.reference p.ids in
    lists_message now m c.args.contents.now (lists_more c.args.self.now.listings now m c.loop-product.invariant.kept is)
    (subst (All P) (take_all c.loop-product.product-index _ c.loop-product-test.false ∙ c.products-product-items.ensures.products) c.loop-product.invariant.listed)
