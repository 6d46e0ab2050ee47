-- The desk in the tables, as a desk is seen.
use Rattle.std.specs.Prelude.{◌≡◌, IsTrue, List, ⊤}
use Rattle.sqlite.specs.State.{State, HasCleanDisk}
use Rattle.sqlite_trees.specs.Tree.{Trees}
use Rattle.series_rules.specs.Content.{SameContent, same_trans}
use Rattle.series_rules.specs.Views.{DeskKind, View}
use Rattle.series_rules.specs.declared.requests.Request.{Request}
use Rattle.desk_rows.specs.ContentLemmas.{keeps_by_content}
use Rattle.desk_rows.specs.Desks.{AreRowsOf, KeepsRequests}

-- a crash leaves trees, which come to a list where they hold its rows, or those of a list that
-- comes to the same; each fault may come
abbrev pub in_tables : DeskKind
in_tables = record {
  Left = Trees;
  comes_to = λ d M. (L : List Request) × AreRowsOf d L × SameContent L M;
  by_content = λ d L M same rows. (rows.0, rows.1, same_trans rows.0 L M rows.2 same);
  may_give = λ f. ⊤;
}

-- what is seen of a desk over a connection: while that is open, it holds the trees of its last
-- commit
abbrev pub seen_in : State → View in_tables
seen_in s = record {
  sound = HasCleanDisk s;
  stands_for = KeepsRequests s;
  by_content = λ L M same keeps. keeps_by_content _ _ _ _ L M same keeps;
  holds = λ d. IsTrue s.is_open → s.committed.trees ≡ d;
  may_leave = s.may_leave;
}
