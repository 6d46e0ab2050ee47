use Rattle.std.proofs.Common.{length, sym, arith}
use Rattle.csv_records.proofs.CutFacts.{joined-part, length-cut, ends-low, ends-order}
use Rattle.csv_records.proofs.buffer.RecordBuffer.fields_of.Goals as goal

pub end_of-first-requires : goal.end_of-first-requires
end_of-first-requires c =
    let last = rw (length-cut 0 c.self.inside.ends.items c.self.inside.fields) at (rw (← c.self.view_is) at c.requires.1) in
    omega (arith, c.requires.0)

pub end_of-last-requires : goal.end_of-last-requires
end_of-last-requires c = rw (length-cut 0 c.self.inside.ends.items c.self.inside.fields) at (rw (← c.self.view_is) at c.requires.1)

pub of-requires : goal.of-requires
of-requires c =
    let last = rw (length-cut 0 c.self.inside.ends.items c.self.inside.fields) at (rw (← c.self.view_is) at c.requires.1) in
    rw (c.end_of-first.ensures, c.end_of-last.ensures)
    (ends-order _ _ c.args.start c.args.end c.self.invariant c.requires.0 last, (ends-low 0 c.self.inside.ends.items (length c.self.inside.fields) c.args.end c.self.invariant).1)

pub returns : goal.returns
returns c =
    let last = rw (length-cut 0 c.self.inside.ends.items c.self.inside.fields) at (rw (← c.self.view_is) at c.requires.1) in
    rw (← c.self.view_is, c.of.ensures, c.end_of-first.ensures, c.end_of-last.ensures)
    (sym (joined-part c.self.inside.ends.items c.self.inside.fields _ c.args.start c.args.end c.self.invariant c.requires.0 last))
