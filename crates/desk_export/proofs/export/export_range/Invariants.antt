use Rattle.std.proofs.Common.{◌≤◌, ◌-◌}
use Rattle.desk_export.specs.Exporting.{texts_of}
use Rattle.desk_export.proofs.TakenTexts.{IsDone}
use Rattle.desk_export.specs.Exports.{requests_from}
use Rattle.desk_export.proofs.export.export_range.Given as goal

-- what is at the numbers before this one was exported
abbrev pub invariant-loop-n : goal.invariant-loop-n
invariant-loop-n g l = record {
  above : l.from ≤ l.n;
  within : l.n - l.from ≤ l.end - l.from;
  exported : IsDone g.T.TakesTexts.takes g.T.TakesTexts.takes_part (λ L. texts_of (requests_from L l.agreement l.from (l.n - l.from))) (g.D.Desk.seen l.fn.desk) (g.D.Desk.seen l.desk) l.fn.taker l.taker;
}
