use Rattle.std.proofs.Common.{Ok}
use Rattle.desk_catalogue.specs.Achieves.{Does}
use Rattle.desk_tables.specs.Rows.{DeskRows}
use Rattle.desk_rows.proofs.Applied.{DrainsTo}
use Rattle.desk_rows.proofs.applying.drain.Given as goal

-- the tables are cut at the number
abbrev pub invariant-loop-value : goal.invariant-loop-value
invariant-loop-value g l = Does g.S.Store (λ (rows : DeskRows) (_ : Unit {0}) (now : DeskRows). DrainsTo l.series l.from l.value rows now) l.fn.work l.work (Ok tt)
