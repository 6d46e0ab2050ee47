use Rattle.std.proofs.Common.{length, ap, arith}
use Rattle.csv_records.proofs.CutFacts.{length-cut, cut-at, ends-at, text-at}
use Rattle.csv_records.proofs.fields.FieldBuffer.at.Goals as goal

pub span-start-requires : goal.span-start-requires
span-start-requires c = rw (length-cut 0 c.self.inside.ends.items c.self.inside.bytes.items) at (rw (← c.self.view_is) at c.requires)

pub slice_bounds-from_utf8_unchecked-count : goal.slice_bounds-from_utf8_unchecked-count
slice_bounds-from_utf8_unchecked-count c =
    let lt = rw (length-cut 0 c.self.inside.ends.items c.self.inside.bytes.items) at (rw (← c.self.view_is) at c.requires) in
    rw (c.span-start.ensures.start, c.span-start.ensures.end) (ends-at 0 _ _ c.args.index c.self.invariant.rises lt).0

pub slice_bounds-from_utf8_unchecked-start : goal.slice_bounds-from_utf8_unchecked-start
slice_bounds-from_utf8_unchecked-start c =
    let lt = rw (length-cut 0 c.self.inside.ends.items c.self.inside.bytes.items) at (rw (← c.self.view_is) at c.requires) in
    let f = ends-at 0 c.self.inside.ends.items (length c.self.inside.bytes.items) c.args.index c.self.invariant.rises lt in
    omega (arith, c.span-start.ensures.start, c.span-start.ensures.end, f.0, f.1, ap length c.as_slice.ensures.value)

pub slice_bounds-from_utf8_unchecked-end : goal.slice_bounds-from_utf8_unchecked-end
slice_bounds-from_utf8_unchecked-end c =
    let lt = rw (length-cut 0 c.self.inside.ends.items c.self.inside.bytes.items) at (rw (← c.self.view_is) at c.requires) in
    let f = ends-at 0 c.self.inside.ends.items (length c.self.inside.bytes.items) c.args.index c.self.invariant.rises lt in
    omega (arith, c.span-start.ensures.start, c.span-start.ensures.end, f.0, f.1, ap length c.as_slice.ensures.value)

pub from_utf8_unchecked-requires : goal.from_utf8_unchecked-requires
from_utf8_unchecked-requires c =
    let lt = rw (length-cut 0 c.self.inside.ends.items c.self.inside.bytes.items) at (rw (← c.self.view_is) at c.requires) in
    rw (c.as_slice.ensures.value, c.span-start.ensures.start, c.span-start.ensures.end) (text-at _ _ c.args.index c.self.invariant lt)

pub returns : goal.returns
returns c =
    let lt = rw (length-cut 0 c.self.inside.ends.items c.self.inside.bytes.items) at (rw (← c.self.view_is) at c.requires) in
    rw (← c.self.view_is, c.from_utf8_unchecked.ensures, c.as_slice.ensures.value, c.span-start.ensures.start, c.span-start.ensures.end)
    (cut-at 0 c.self.inside.ends.items c.self.inside.bytes.items c.args.index lt)
