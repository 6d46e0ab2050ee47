-- The declarations of a tag, attribute by attribute.
use Rattle.std.proofs.Common.{List, [], ◌∷◌, Option, Some, None}
use Rattle.feed_xml.specs.AttributeView.{attribute_view}
use Rattle.feed_xml.specs.Grammar.{Attribute}
use Rattle.feed_xml.specs.declared.attributes.Attribute.{Attribute as Read}

-- the attributes that are left
abbrev pub left : Option (Read × List Attribute) → List Attribute
left None = []
left (Some x) = attribute_view x.0 ∷ x.1
