use Rattle.std.proofs.Common.{refl}
use Rattle.series_rules.proofs.GapLemmas.{greatest_unique}
use Rattle.series_rules.proofs.HeldNumbers.{held_count, lacking_from_next}
use Rattle.series_rules.proofs.gaps.gap_report.Goals as goal

pub returns : goal.returns
returns c = λ f greatest below least held is.
    let top = greatest_unique f c.greatest_number.result greatest (c.greatest_number.ensures f below least held) is in
    let count = held_count f greatest c.args.held.now c.args.next is held in
    let lacking = lacking_from_next f greatest c.args.first c.args.next is least in
    rw (top, count, lacking, c.in_ok-missing.ensures f greatest held is) refl
