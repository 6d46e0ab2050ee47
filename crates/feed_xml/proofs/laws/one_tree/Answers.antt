use Rattle.feed_xml.proofs.OneTreeLaws.{one_tree}
use Rattle.feed_xml.proofs.laws.one_tree.Goals as goal

pub returns : goal.returns
returns c = one_tree
