use Rattle.std.proofs.Common.{◌∙◌, sym}
use Rattle.feed_xml.proofs.AttributeRuns.{none_in}
use Rattle.feed_xml.proofs.attributes.Attributes.is_empty.Goals as goal

pub returns : goal.returns
returns c e = sym c.self.view_is ∙ none_in c.self.inside.bytes.now (sym c.is_empty.ensures ∙ e)
