use Rattle.std.proofs.Common.{Ok, take}
use Rattle.desk_catalogue.specs.Achieves.{Does}
use Rattle.desk_catalogue.specs.Calls.{KeepsRows}
use Rattle.desk_catalogue.specs.ReadRecords.{AreReadOf}
use Rattle.desk_catalogue.proofs.catalogues.read_records.Given as goal

abbrev pub invariant-loop-record : goal.invariant-loop-record
invariant-loop-record g l = Does g.S.Store (KeepsRows (λ rows (_ : Unit {0}). AreReadOf (take l.record-index l.records) rows l.catalogue)) l.fn.work l.work (Ok tt)
