use Rattle.std.proofs.Common.{◌≡◌, take}
use Rattle.std.specs.List.{flat_map}
use Rattle.sqlite.specs.Values.{bound}
use Rattle.desk_tables.specs.RecordRows.{article_columns}
use Rattle.desk_tables.proofs.articles.article_values.Given as goal

abbrev pub invariant-loop-row : goal.invariant-loop-row
invariant-loop-row l = bound l.values.items ≡ flat_map article_columns (take l.row-index l.rows)
