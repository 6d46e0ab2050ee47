use Rattle.std.proofs.Common.{◌≡◌, ◌≤◌, ◌+◌, ◌-◌, ◌++◌, length, map, take, vec_len, vec_capacity}
use Rattle.csv_records.proofs.ends.add_ends.Given as goal

abbrev pub invariant-loop-end : goal.invariant-loop-end
invariant-loop-end l = record {
  room : vec_len l.ends + length l.added ≤ vec_capacity l.ends + l.end-index;
  so_far : l.ends.items ≡ l.fn.ends.items ++ map (λ e. (e - l.first) + l.start) (take l.end-index l.added);
}
