use Rattle.std.proofs.Common.{sym}
use Rattle.series_rules.specs.Agreements.{has_name}
use Rattle.desk_memory.proofs.Kept.{first_place, none_found}
use Rattle.desk_memory.proofs.AfterRequests.{no_gaps, gaps_stand}
use Rattle.desk_memory.proofs.desk.gaps_of.Goals as goal

pub returns-in_default : goal.returns-in_default
returns-in_default c = λ L stands.
    no_gaps c.args.kept.now L c.args.name.now stands (none_found (λ s. has_name c.args.name.now s.agreement) c.args.kept.now (sym c.in_default.ensures))

pub returns : goal.returns
returns c = λ L stands.
    let first = first_place (λ s. has_name c.args.name.now s.agreement) c.args.kept.now c.in-Some.at c.index-kept-at.result (sym c.in-Some.ensures) c.index-kept-at.is in
    gaps_stand c.args.kept.now L c.args.name.now c.in-Some.at c.index-kept-at.result c.in_ok-report.report stands first c.in_ok-report.ensures
