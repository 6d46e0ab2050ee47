use Rattle.std.proofs.Common.{◌≡◌, List, take}
use Rattle.std.specs.List.{flat_map}
use Rattle.series_rules.specs.declared.requests.Request.{Request}
use Rattle.desk_export.proofs.TakenTexts.{IsDone}
use Rattle.desk_export.specs.ListTexts.{series_texts}
use Rattle.series_rules.specs.Listing.{agreements_by_name}
use Rattle.desk_export.proofs.list_text.list_desk.Given as goal

-- the series before this one were listed
abbrev pub invariant-loop-agreement : goal.invariant-loop-agreement
invariant-loop-agreement g l = record {
  names : (L : List Request) → (g.D.Desk.seen l.fn.desk).stands_for L → (g.D.Desk.seen l.desk).sound → l.all ≡ agreements_by_name L;
  done : IsDone g.T.TakesTexts.takes g.T.TakesTexts.takes_part (λ L. flat_map (series_texts l.listed L) (take l.agreement-index (agreements_by_name L))) (g.D.Desk.seen l.fn.desk) (g.D.Desk.seen l.desk) l.fn.taker l.taker;
}
