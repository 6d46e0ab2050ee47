use Rattle.std.proofs.Common.{◌∷◌, ◌∙◌, sym, ap, List}
use Rattle.feed_xml.specs.Grammar.{Attribute as Spelled}
use Rattle.feed_xml.specs.AttributeView.{attribute_view}
use Rattle.feed_xml.proofs.AttributeRuns.{spell_is, spell_of}
use Rattle.feed_xml.proofs.attributes.Attributes.split_first.Goals as goal

pub invariant_of-result : goal.invariant_of-result
invariant_of-result c =
    let n = c.in-Some.ensures.next _ c.self.invariant in
    spell_of c.in-Some.rest.now n.0 n.2

pub returns-in-Some : goal.returns-in-Some
returns-in-Some c =
    let n = c.in-Some.ensures.next _ c.self.invariant in
    sym c.self.view_is ∙ n.1 ∙ ap (λ (l : List Spelled). attribute_view c.in-Some.first ∷ l) (sym (spell_is c.in-Some.rest.now n.0 n.2))
