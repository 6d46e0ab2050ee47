use Rattle.std.proofs.Common.{length, sym, ap, arith}
use Rattle.csv_records.proofs.CutFacts.{joined-part, length-cut, ends-low, ends-order}
use Rattle.csv_records.proofs.fields.FieldBuffer.bytes_of.Goals as goal

pub end_of-first-requires : goal.end_of-first-requires
end_of-first-requires c =
    let last = rw (length-cut 0 c.self.inside.ends.items c.self.inside.bytes.items) at (rw (← c.self.view_is) at c.requires.1) in
    omega (arith, c.requires.0)

pub end_of-last-requires : goal.end_of-last-requires
end_of-last-requires c = rw (length-cut 0 c.self.inside.ends.items c.self.inside.bytes.items) at (rw (← c.self.view_is) at c.requires.1)

pub slice_bounds-result-count : goal.slice_bounds-result-count
slice_bounds-result-count c =
    let last = rw (length-cut 0 c.self.inside.ends.items c.self.inside.bytes.items) at (rw (← c.self.view_is) at c.requires.1) in
    rw (c.end_of-first.ensures, c.end_of-last.ensures) (ends-order _ _ c.args.start c.args.end c.self.invariant.rises c.requires.0 last)

pub slice_bounds-result-start : goal.slice_bounds-result-start
slice_bounds-result-start c =
    let last = rw (length-cut 0 c.self.inside.ends.items c.self.inside.bytes.items) at (rw (← c.self.view_is) at c.requires.1) in
    let order = ends-order c.self.inside.ends.items (length c.self.inside.bytes.items) c.args.start c.args.end c.self.invariant.rises c.requires.0 last in
    let low = (ends-low 0 c.self.inside.ends.items (length c.self.inside.bytes.items) c.args.end c.self.invariant.rises).1 in
    omega (arith, low, order, c.end_of-first.ensures, c.end_of-last.ensures, ap length c.as_slice.ensures.value)

pub slice_bounds-result-end : goal.slice_bounds-result-end
slice_bounds-result-end c =
    let last = rw (length-cut 0 c.self.inside.ends.items c.self.inside.bytes.items) at (rw (← c.self.view_is) at c.requires.1) in
    let order = ends-order c.self.inside.ends.items (length c.self.inside.bytes.items) c.args.start c.args.end c.self.invariant.rises c.requires.0 last in
    let low = (ends-low 0 c.self.inside.ends.items (length c.self.inside.bytes.items) c.args.end c.self.invariant.rises).1 in
    omega (arith, low, order, c.end_of-first.ensures, c.end_of-last.ensures, ap length c.as_slice.ensures.value)

pub returns : goal.returns
returns c =
    let last = rw (length-cut 0 c.self.inside.ends.items c.self.inside.bytes.items) at (rw (← c.self.view_is) at c.requires.1) in
    rw (← c.self.view_is, c.as_slice.ensures.value, c.end_of-first.ensures, c.end_of-last.ensures)
    (sym (joined-part c.self.inside.ends.items c.self.inside.bytes.items _ c.args.start c.args.end c.self.invariant.rises c.requires.0 last))
