use Rattle.std.proofs.Common.{◌≡◌, ◌≤◌, ◌+◌, length, map, take, vec_len, vec_capacity}
use Rattle.csv_records.proofs.record.Record.fill.Given as goal

abbrev pub invariant-loop-i : goal.invariant-loop-i
invariant-loop-i l = record {
  room : vec_len l.list + length l.self ≤ vec_capacity l.list + l.i;
  so_far : map (λ f. f.now) l.list.items ≡ take l.i l.self;
}
