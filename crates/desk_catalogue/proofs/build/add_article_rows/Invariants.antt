use Rattle.std.proofs.Common.{◌≡◌, ◌++◌, drop, map}
use Rattle.std.specs.List.{enumerate_from}
use Rattle.desk_catalogue.specs.EntryRows.{article_row, article_rows}
use Rattle.desk_catalogue.proofs.build.add_article_rows.Given as goal

abbrev pub invariant-loop-id : goal.invariant-loop-id
invariant-loop-id l = l.rows.items ++ map (article_row l.series l.reference) (enumerate_from l.place (drop l.id-index l.ids)) ≡ l.fn.rows.items ++ article_rows l.series l.reference l.ids
