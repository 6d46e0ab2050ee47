use Rattle.feed_xml.proofs.DocumentLaws.{only_one}
use Rattle.feed_xml.proofs.TreeLaws.{complete_of}
use Rattle.feed_xml.proofs.laws.one_document.Goals as goal

pub returns : goal.returns
returns c = λ bytes a b x y. only_one bytes a b (complete_of bytes a x) (complete_of bytes b y)
