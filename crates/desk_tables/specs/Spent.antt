-- How a transaction is spent.
use Rattle.std.specs.Prelude.{◌≡◌, true, Result, Ok, Err}
use Rattle.onix_records.specs.declared.faults.StoreFault.{StoreFault}
use Rattle.desk_tables.specs.declared.work.Work.{Work}

-- a transaction after something was read: spent where that failed
abbrev pub spent_by : {S A : Type 0} → Work S → Result A StoreFault → Work S
spent_by work (Ok value) = work
spent_by work (Err fault) = record work { spent = true }

-- what was read is handed on, and a fault of it spends the transaction
pub record HandsOn {S A : Type 0} (old new : Work S) (read result : Result A StoreFault)
    : Type 0 where
  pub spends : new ≡ spent_by old read
  pub same : result ≡ read
