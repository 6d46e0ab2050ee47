use Rattle.std.proofs.Common.{Result, ap, sym}
use Rattle.desk_tables.specs.Spent.{spent_by}
use Rattle.desk_tables.proofs.work.Work.or_spend.Goals as goal

pub returns-in-Ok : goal.returns-in-Ok
returns-in-Ok g c = record { spends = sym (ap (λ (r : Result _ _). spent_by c.args.self.now r) c.in-Ok.is); same = sym c.in-Ok.is }

pub returns-in-Err : goal.returns-in-Err
returns-in-Err g c = record { spends = sym (ap (λ (r : Result _ _). spent_by c.args.self.now r) c.in-Err.is); same = sym c.in-Err.is }
