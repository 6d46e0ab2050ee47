use Rattle.std.proofs.Common.{◌≡◌, List}
use Rattle.std.specs.List.{dedup}
use Rattle.std.proofs.lemmas.List.Filters.{dedup_is}
use Rattle.desk_tables.specs.ArticleAnswers.{same_row}
use Rattle.desk_tables.specs.RecordRows.{RecordRow}
use Rattle.desk_tables.proofs.article_offers.each_once.Goals as goal

pub returns : goal.returns
returns c =
    let found : List RecordRow = c.in_ok-records.records.items in
    let once : c.dedup.new.self.items ≡ dedup same_row found = dedup_is same_row found c.dedup.new.self.items c.dedup.ensures.filtered in
    (found, c.in_ok-records.ensures, once)
