use Rattle.std.proofs.Common.{◌≡◌, List, length}
use Rattle.feed_xml.specs.Grammar.{Attribute, are_distinct}
use Rattle.feed_xml.specs.AttributeView.{Spell}
use Rattle.feed_xml.proofs.attributes.are_distinct.Given as goal

abbrev pub invariant-loop-first : goal.invariant-loop-first
invariant-loop-first l = (list : List Attribute) → Spell l.bytes list → (left : List Attribute) × Spell l.rest left × (are_distinct left ≡ are_distinct list)

abbrev pub decreases-loop-first : goal.decreases-loop-first
decreases-loop-first l = length l.rest
