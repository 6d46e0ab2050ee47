use Rattle.csv_records.proofs.CutFacts.{length-cut, cut-at, ends-at}
use Rattle.csv_records.proofs.buffer.RecordBuffer.record.Goals as goal

pub span-start-requires : goal.span-start-requires
span-start-requires c = rw (length-cut 0 c.self.inside.ends.items c.self.inside.fields) at (rw (← c.self.view_is) at c.requires)

pub of-requires : goal.of-requires
of-requires c =
    let lt = rw (length-cut 0 c.self.inside.ends.items c.self.inside.fields) at (rw (← c.self.view_is) at c.requires) in
    rw (c.span-start.ensures.start, c.span-start.ensures.end) (ends-at 0 _ _ c.args.index c.self.invariant lt)

pub returns : goal.returns
returns c =
    let lt = rw (length-cut 0 c.self.inside.ends.items c.self.inside.fields) at (rw (← c.self.view_is) at c.requires) in
    rw (← c.self.view_is, c.of.ensures, c.span-start.ensures.start, c.span-start.ensures.end) (cut-at 0 c.self.inside.ends.items c.self.inside.fields c.args.index lt)
