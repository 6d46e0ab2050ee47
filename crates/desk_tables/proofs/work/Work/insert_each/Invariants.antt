use Rattle.std.proofs.Common.{◌≡◌, ◌*◌, ◌≤◌, false, List, length, take, Ok}
use Rattle.std.specs.List.{flat_map}
use Rattle.sqlite.specs.Held.{state}
use Rattle.sqlite.specs.Values.{bound}
use Rattle.desk_tables.specs.ManyRows.{RowOf, columns_of, many_of, with_rows}
use Rattle.desk_tables.specs.Transactions.{Adding}
use Rattle.desk_tables.proofs.work.Work.insert_each.Given as goal

abbrev pub invariant-loop-place : goal.invariant-loop-place
invariant-loop-place g l = record {
  same_reference : l.self.tables.ghost_name ≡ l.fn.self.tables.ghost_name;
  unspent : l.self.spent ≡ false;
  so_far : (xs : List (RowOf l.fn.table)) → bound l.fn.values ≡ flat_map (columns_of l.fn.table) xs → many_of l.fn.eight * l.fn.to ≤ length xs
      → Adding {A = Unit {0}} (with_rows l.fn.table (take (many_of l.fn.eight * l.fn.from) xs)) (with_rows l.fn.table (take (many_of l.fn.eight * l.place) xs)) (state g.S.Store l.fn.self.tables.now.connection) (state g.S.Store l.self.tables.now.connection) (Ok tt);
}
