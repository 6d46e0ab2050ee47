use Rattle.std.proofs.Common.{◌≡◌, ◌-◌, ◌≤◌, length, take, drop}
use Rattle.feed_xml.specs.Steps.{until}
use Rattle.feed_xml.proofs.Runs.{with_front}
use Rattle.feed_xml.proofs.scan.until.Given as goal

abbrev pub invariant-loop-at : goal.invariant-loop-at
invariant-loop-at l = record {
  within : l.at ≤ length l.bytes;
  so_far : with_front (take l.at l.bytes) (until l.mark (drop l.at l.bytes)) ≡ until l.mark l.bytes;
}

abbrev pub decreases-loop-at : goal.decreases-loop-at
decreases-loop-at l = length l.bytes - l.at
