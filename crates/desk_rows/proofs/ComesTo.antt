-- Trees that a crash leaves come to a list just where they hold its rows.
use Rattle.std.proofs.Common.{List, inl, refl}
use Rattle.sqlite.specs.Effect.{Database}
use Rattle.sqlite_trees.specs.Tree.{Trees}
use Rattle.series_rules.specs.declared.requests.Request.{Request}
use Rattle.desk_rows.specs.ContentLemmas.{rows_by_content}
use Rattle.desk_rows.specs.Desks.{AreRowsOf, HoldsRequests, StoresRequests}
use Rattle.desk_rows.specs.Seen.{in_tables}

-- a database with the index holds them as a file may
pub stored : (db : Database) (L : List Request) → HoldsRequests db L → StoresRequests db L
stored db L (rows, held, stands) = (rows, inl held, stands)

pub rows_come : (d : Trees) (L : List Request) → AreRowsOf d L → in_tables.comes_to d L
rows_come d L rows = (L, rows, record { agreements = λ name. refl; firsts = λ series number. refl })

pub come_rows : (d : Trees) (M : List Request) → in_tables.comes_to d M → AreRowsOf d M
come_rows d M (L, rows, same) = rows_by_content d L M same rows
