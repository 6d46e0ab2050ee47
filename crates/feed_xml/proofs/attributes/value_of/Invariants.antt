use Rattle.std.proofs.Common.{◌≡◌, List, length}
use Rattle.feed_xml.specs.Grammar.{Attribute}
use Rattle.feed_xml.specs.AttributeView.{Spell}
use Rattle.feed_xml.specs.Distinct.{value_of}
use Rattle.feed_xml.proofs.attributes.value_of.Given as goal

abbrev pub invariant-loop-first : goal.invariant-loop-first
invariant-loop-first l = (list : List Attribute) → Spell l.bytes list → (left : List Attribute) × Spell l.rest left × (value_of l.name left ≡ value_of l.name list)

abbrev pub decreases-loop-first : goal.decreases-loop-first
decreases-loop-first l = length l.rest
