use Rattle.std.proofs.Common.{◌≡◌, filter, map, take}
use Rattle.desk_tables.specs.ArticleAnswers.{shows_article}
use Rattle.desk_tables.specs.RecordAnswers.{two_columns}
use Rattle.desk_tables.specs.RecordRows.{record_columns}
use Rattle.desk_tables.proofs.article_offers.identified.Given as goal

abbrev pub invariant-loop-row : goal.invariant-loop-row
invariant-loop-row l = map record_columns l.records.items ≡ map two_columns (filter shows_article (take l.row-index l.rows.items))
