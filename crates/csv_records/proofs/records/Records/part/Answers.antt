use Rattle.std.proofs.Common.{◌≡◌, ◌+◌, ◌-◌, sym, arith}
use Rattle.csv_records.proofs.CutFacts.{length-part, part-part}
use Rattle.csv_records.proofs.records.Records.part.Goals as goal

pub returns : goal.returns
returns c =
    let n = length-part c.self.inside.start (c.self.inside.end - c.self.inside.start) c.self.inside.buffer.now (omega arith) in
    let le = rw n at (rw (← c.self.view_is) at c.requires.1) in
    let gap : (c.self.inside.start + c.args.end) - (c.self.inside.start + c.args.start) ≡ c.args.end - c.args.start = omega arith in
    rw (← c.self.view_is, gap) (sym (part-part c.self.inside.start (c.self.inside.end - c.self.inside.start) c.args.start c.args.end c.self.inside.buffer.now c.requires.0 le))
