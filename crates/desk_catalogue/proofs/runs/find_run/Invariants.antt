use Rattle.std.proofs.Common.{Ok, None}
use Rattle.desk_catalogue.specs.Achieves.{Does}
use Rattle.desk_catalogue.specs.Calls.{KeepsRows}
use Rattle.desk_catalogue.specs.Runs.{BeginsWith}
use Rattle.desk_catalogue.proofs.runs.find_run.Given as goal

abbrev pub invariant-loop-i : goal.invariant-loop-i
invariant-loop-i g l = Does g.S.Store (KeepsRows (λ rows (_ : Unit {0}). BeginsWith l.with_minimums l.series l.products rows (record { count = l.i; found = None }))) l.fn.work l.work (Ok tt)
