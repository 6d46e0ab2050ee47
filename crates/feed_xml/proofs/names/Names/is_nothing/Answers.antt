use Rattle.std.proofs.Common.{◌∙◌, sym, ap, eqb, reverse}
use Rattle.std.proofs.lemmas.List.{length-reverse}
use Rattle.feed_xml.specs.Stacks.{names}
use Rattle.feed_xml.proofs.NestingLaws.{length-names, nothing_is}
use Rattle.feed_xml.proofs.names.Names.is_nothing.Goals as goal

pub returns : goal.returns
returns c =
    rw (← c.self.view_is)
    (c.is_empty.ensures ∙ ap (λ n. eqb n 0) (c.self.inside.starts.ok.0 ∙ sym (length-names (reverse c.self.inside.starts.items) c.self.inside.bytes.items ∙ length-reverse c.self.inside.starts.items))
    ∙ sym (nothing_is (names (reverse c.self.inside.starts.items) c.self.inside.bytes.items)))
