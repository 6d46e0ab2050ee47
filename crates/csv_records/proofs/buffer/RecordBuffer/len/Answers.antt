use Rattle.std.proofs.Common.{◌∙◌, sym}
use Rattle.csv_records.proofs.CutFacts.{length-cut}
use Rattle.csv_records.proofs.buffer.RecordBuffer.len.Goals as goal

pub returns : goal.returns
returns c = rw (← c.self.view_is) (c.len.ensures ∙ c.self.inside.ends.ok.0 ∙ sym (length-cut 0 c.self.inside.ends.items c.self.inside.fields))
