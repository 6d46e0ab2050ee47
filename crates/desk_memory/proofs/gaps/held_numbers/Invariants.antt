use Rattle.std.proofs.Common.{◌≤◌}
use Rattle.std.specs.BTreeMap.{get}
use Rattle.std.specs.Ordering.{nat_cmp}
use Rattle.desk_memory.proofs.HeldWalk.{Walked}
use Rattle.desk_memory.proofs.gaps.held_numbers.Given as goal

abbrev pub invariant-loop-number : goal.invariant-loop-number
invariant-loop-number l = record {
  below : l.next ≤ 1000000000;
  walked : Walked (get nat_cmp l.numbers) l.fn.first l.next l.held.items l.number-iterator;
}
