use Rattle.std.proofs.Common.{subst}
use Rattle.onix_records.specs.ContentsText.{IsContents}
use Rattle.onix_message.proofs.contents.Contents.can_be_read_back.Goals as goal

pub returns : goal.returns
returns c = subst IsContents c.self.view_is c.self.invariant
