use Rattle.std.proofs.Common.{◌≡◌, ◌≤◌, ◌-◌, [], Some, length, take, drop}
use Rattle.feed_xml.specs.Values.{normalized_from}
use Rattle.feed_xml.proofs.values.split_body.Given as goal

abbrev pub invariant-loop-at : goal.invariant-loop-at
invariant-loop-at l = record {
  within : l.at ≤ length l.bytes;
  so_far : normalized_from (Some []) l.bytes ≡ normalized_from (Some (take l.at l.bytes)) (drop l.at l.bytes);
}

abbrev pub decreases-loop-at : goal.decreases-loop-at
decreases-loop-at l = length l.bytes - l.at
