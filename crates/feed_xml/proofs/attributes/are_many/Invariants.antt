use Rattle.std.proofs.Common.{◌≡◌, ◌+◌, ◌≤◌, List, length}
use Rattle.feed_xml.specs.Grammar.{Attribute}
use Rattle.feed_xml.specs.AttributeView.{Spell}
use Rattle.feed_xml.proofs.attributes.are_many.Given as goal

abbrev pub invariant-loop-next : goal.invariant-loop-next
invariant-loop-next l = record {
  most : l.left ≤ 64;
  others : (list : List Attribute) → Spell l.bytes list → (behind : List Attribute) × Spell l.rest behind × (length behind + 64 ≡ length list + l.left);
}

abbrev pub decreases-loop-next : goal.decreases-loop-next
decreases-loop-next l = length l.rest
