use Rattle.catalogue_rules.proofs.ArticleIndexes.{lists_nothing}
use Rattle.catalogue_rules.proofs.article_index.ArticleIndex.new.Goals as goal

pub returns : goal.returns
returns c = lists_nothing c.new.result
