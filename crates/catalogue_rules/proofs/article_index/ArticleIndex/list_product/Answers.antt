use Rattle.std.proofs.Common.{◌≡◌, List, true, take, sym, subst}
use Rattle.onix_records.specs.Product.{is_article_type}
use Rattle.catalogue_rules.specs.ArticleIndex.{ListsArticles, is_listed}
use Rattle.catalogue_rules.proofs.ArticleIndexes.{articles_more}
use Rattle.catalogue_rules.proofs.Places.{take-next}
use Rattle.catalogue_rules.proofs.article_index.ArticleIndex.list_product.Goals as goal

pub loop-id-preserved : goal.loop-id-preserved
loop-id-preserved c =
    let ids = c.args.product.now.ids in
    let reference = c.args.product.now.reference in
    let was = c.loop-id.self.listings in
    let now = c.list_identifier.new.self.listings in
    let i = c.loop-id.id-index in
    let id = c.id-item.result in
    let kept = c.list_identifier.ensures.kept in
    record {
      kept = λ isbn q h. kept isbn q (c.loop-id.invariant.kept isbn q h);
      listed = subst (ListsArticles now reference) (sym (take-next ids c.as_slice-id-items.result.now i id c.as_slice-id-items.ensures c.loop-id-test.true c.id-item.is))
          (articles_more was now reference (take i ids) id kept c.loop-id.invariant.listed
          (subst (λ (q : List _). is_article_type id.id_type ≡ true → is_listed now id.id_value q ≡ true) c.as_str.ensures c.in_ok-list_identifier.ensures.ok));
    }
