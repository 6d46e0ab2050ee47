use Rattle.std.proofs.Common.{◌∙◌, sym, reverse}
use Rattle.std.proofs.lemmas.List.{length-reverse}
use Rattle.feed_xml.proofs.NestingLaws.{length-names}
use Rattle.feed_xml.proofs.names.Names.len.Goals as goal

pub returns : goal.returns
returns c =
    rw (← c.self.view_is)
    (c.len.ensures ∙ c.self.inside.starts.ok.0 ∙ sym (length-names (reverse c.self.inside.starts.items) c.self.inside.bytes.items ∙ length-reverse c.self.inside.starts.items))
