use Rattle.std.proofs.Common.{◌≡◌, ◌+◌, length, sym, subst}
use Rattle.std.specs.BTreeMap.{get}
use Rattle.std.specs.Ordering.{nat_cmp}
use Rattle.series_rules.proofs.FrontLemmas.{front_next, next_unique}
use Rattle.series_rules.specs.Gaps.{AreHeldFrom}
use Rattle.desk_memory.proofs.series.Series.gaps.Goals as goal

pub returns : goal.returns
returns c = rw (← c.self.view_is) (λ hs greatest is top.
    let f = get nat_cmp c.self.inside.numbers in
    let first = c.self.inside.agreement.first in
    let found = c.in_ok-next.ensures in
    let same : c.in_ok-next.next ≡ first + length hs = next_unique f first _ _ found.next (front_next f first hs is) in
    let held = subst (AreHeldFrom f c.in_ok-next.next) (sym c.deref.ensures.value) found.held in
    rw (← same) (c.gap_report.ensures f greatest c.self.invariant.1 found.next held top))
