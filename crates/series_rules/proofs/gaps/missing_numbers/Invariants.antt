use Rattle.std.proofs.Common.{◌≡◌, ◌<◌, ◌++◌, ℕ, Option, drop}
use Rattle.series_rules.specs.Gaps.{AreHeldFrom, IsGreatest, ranges_of}
use Rattle.series_rules.specs.declared.requests.Standing.{Standing}
use Rattle.series_rules.proofs.HeldNumbers.{lacking_from}
use Rattle.series_rules.proofs.gaps.missing_numbers.Given as goal

-- the ranges so far, and those of the numbers that are left, are all
abbrev pub invariant-loop-number : goal.invariant-loop-number
invariant-loop-number l = record {
  positive : 0 < l.seen;
  so_far : (f : ℕ → Option Standing) (greatest : Option ℕ) → AreHeldFrom f l.fn.next l.held → IsGreatest f greatest →
      AreHeldFrom f l.seen (drop l.number-index l.held) × (l.missing ++ ranges_of (lacking_from f greatest l.seen) ≡ ranges_of (lacking_from f greatest l.fn.next));
}
