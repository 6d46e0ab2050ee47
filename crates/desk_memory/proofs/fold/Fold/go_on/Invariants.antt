use Rattle.std.proofs.Common.{◌≤◌, ℕ}
use Rattle.std.specs.BTreeMap.{get}
use Rattle.std.specs.Ordering.{nat_cmp}
use Rattle.desk_memory.specs.Folded.{IsFolded}
use Rattle.desk_memory.proofs.Walks.{Rest}
use Rattle.desk_memory.proofs.fold.Fold.go_on.Given as goal

-- the walk has what stands from some number on that is not above the next
abbrev pub invariant-loop-number : goal.invariant-loop-number
invariant-loop-number l = record {
  walk : (seen : ℕ) × (seen ≤ l.self.next) × Rest (get nat_cmp l.numbers) seen l.number-iterator;
  folded : IsFolded (get nat_cmp l.numbers) l.fn.from l.self;
}
