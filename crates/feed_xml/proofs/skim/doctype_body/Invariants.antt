use Rattle.std.proofs.Common.{◌≡◌, ◌-◌, ◌≤◌, length, take, drop}
use Rattle.feed_xml.specs.declared.skim.Skim.TheVariants.{Outside}
use Rattle.feed_xml.specs.Steps.{skim}
use Rattle.feed_xml.proofs.Runs.{with_front}
use Rattle.feed_xml.proofs.skim.doctype_body.Given as goal

abbrev pub invariant-loop-at : goal.invariant-loop-at
invariant-loop-at l = record {
  within : l.at ≤ length l.bytes;
  so_far : with_front (take l.at l.bytes) (skim l.stage (drop l.at l.bytes)) ≡ skim Outside l.bytes;
}

abbrev pub decreases-loop-at : goal.decreases-loop-at
decreases-loop-at l = length l.bytes - l.at
