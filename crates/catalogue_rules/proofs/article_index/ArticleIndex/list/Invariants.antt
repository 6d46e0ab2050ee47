use Rattle.std.proofs.Common.{take}
use Rattle.std.specs.List.{All}
use Rattle.catalogue_rules.specs.ArticleIndex.{ListsArticles, ListsAsBefore}
use Rattle.catalogue_rules.proofs.article_index.ArticleIndex.list.Given as goal

abbrev pub invariant-loop-product : goal.invariant-loop-product
invariant-loop-product l = record {
  kept : ListsAsBefore l.fn.self.listings l.self.listings;
  listed : All (λ p. ListsArticles l.self.listings p.reference p.ids) (take l.product-index l.product-items);
}
