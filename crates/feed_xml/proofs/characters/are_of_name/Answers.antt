use Rattle.std.proofs.Common.{◌∙◌}
use Rattle.feed_xml.proofs.CharacterLaws.{named_is}
use Rattle.feed_xml.proofs.characters.are_of_name.Goals as goal

pub returns : goal.returns
returns c = c.are_named.ensures ∙ named_is c.args.bytes.now
