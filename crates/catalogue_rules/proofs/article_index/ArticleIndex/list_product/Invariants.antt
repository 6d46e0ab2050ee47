use Rattle.std.proofs.Common.{take}
use Rattle.catalogue_rules.specs.ArticleIndex.{ListsArticles, ListsAsBefore}
use Rattle.catalogue_rules.proofs.article_index.ArticleIndex.list_product.Given as goal

abbrev pub invariant-loop-id : goal.invariant-loop-id
invariant-loop-id l = record {
  kept : ListsAsBefore l.fn.self.listings l.self.listings;
  listed : ListsArticles l.self.listings l.product.reference (take l.id-index l.product.ids);
}
