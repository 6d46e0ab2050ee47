use Rattle.std.proofs.Common.{◌≡◌, ◌++◌, List, drop}
use Rattle.series_rules.specs.declared.requests.Request.{Request}
use Rattle.desk_export.specs.Exporting.{requests_between, texts_of}
use Rattle.desk_export.proofs.TakenTexts.{IsDone}
use Rattle.desk_export.proofs.export.export_held.Given as goal

-- some of the requests were exported, and the others are left
abbrev pub invariant-loop-range : goal.invariant-loop-range
invariant-loop-range g l = record {
  some : List Request → List Request;
  split : (L : List Request) → requests_between L l.agreement l.report.first l.missing l.end ≡ some L ++ requests_between L l.agreement l.from (drop l.range-index l.missing) l.end;
  exported : IsDone g.T.TakesTexts.takes g.T.TakesTexts.takes_part (λ L. texts_of (some L)) (g.D.Desk.seen l.fn.desk) (g.D.Desk.seen l.desk) l.fn.taker l.taker;
}
