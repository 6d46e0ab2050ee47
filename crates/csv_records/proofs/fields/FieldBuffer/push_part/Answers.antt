use Rattle.std.proofs.Common.{◌≡◌, ◌-◌, length, ap, arith}
use Rattle.csv_records.proofs.CutFacts.{cut-part, ends-low, ends-order, ends-within, holds-part, length-cut, length-part, part-places}
use Rattle.csv_records.proofs.fields.FieldBuffer.push_part.Goals as goal

pub end_of-first-requires : goal.end_of-first-requires
end_of-first-requires c =
    let last = rw (length-cut 0 c.from.inside.ends.items c.from.inside.bytes.items) at (rw (← c.from.view_is) at c.requires.1) in
    omega (arith, c.requires.0)

pub end_of-last-requires : goal.end_of-last-requires
end_of-last-requires c = rw (length-cut 0 c.from.inside.ends.items c.from.inside.bytes.items) at (rw (← c.from.view_is) at c.requires.1)

pub slice_bounds-extend_from_slice-count : goal.slice_bounds-extend_from_slice-count
slice_bounds-extend_from_slice-count c =
    let last = rw (length-cut 0 c.from.inside.ends.items c.from.inside.bytes.items) at (rw (← c.from.view_is) at c.requires.1) in
    rw (c.end_of-first.ensures, c.end_of-last.ensures) (ends-order _ _ c.args.start c.args.end c.from.invariant.rises c.requires.0 last)

pub slice_bounds-extend_from_slice-start : goal.slice_bounds-extend_from_slice-start
slice_bounds-extend_from_slice-start c =
    let last = rw (length-cut 0 c.from.inside.ends.items c.from.inside.bytes.items) at (rw (← c.from.view_is) at c.requires.1) in
    let order = ends-order c.from.inside.ends.items (length c.from.inside.bytes.items) c.args.start c.args.end c.from.invariant.rises c.requires.0 last in
    let low = (ends-low 0 c.from.inside.ends.items (length c.from.inside.bytes.items) c.args.end c.from.invariant.rises).1 in
    omega (arith, low, order, c.end_of-first.ensures, c.end_of-last.ensures, ap length c.as_slice.ensures.value)

pub slice_bounds-extend_from_slice-end : goal.slice_bounds-extend_from_slice-end
slice_bounds-extend_from_slice-end c =
    let last = rw (length-cut 0 c.from.inside.ends.items c.from.inside.bytes.items) at (rw (← c.from.view_is) at c.requires.1) in
    let order = ends-order c.from.inside.ends.items (length c.from.inside.bytes.items) c.args.start c.args.end c.from.invariant.rises c.requires.0 last in
    let low = (ends-low 0 c.from.inside.ends.items (length c.from.inside.bytes.items) c.args.end c.from.invariant.rises).1 in
    omega (arith, low, order, c.end_of-first.ensures, c.end_of-last.ensures, ap length c.as_slice.ensures.value)

pub offset_bounds-as_slice-start : goal.offset_bounds-as_slice-start
offset_bounds-as_slice-start c =
    let last = rw (length-cut 0 c.from.inside.ends.items c.from.inside.bytes.items) at (rw (← c.from.view_is) at c.requires.1) in
    omega (arith, c.requires.0, last, c.as_slice-2.type_inv, ap length c.as_slice-2.ensures.value)

pub slice_bounds-ends-end : goal.slice_bounds-ends-end
slice_bounds-ends-end c =
    let last = rw (length-cut 0 c.from.inside.ends.items c.from.inside.bytes.items) at (rw (← c.from.view_is) at c.requires.1) in
    omega (arith, c.requires.0, last, ap length c.as_slice-2.ensures.value)

pub add_ends-requires : goal.add_ends-requires
add_ends-requires c =
    let last = rw (length-cut 0 c.from.inside.ends.items c.from.inside.bytes.items) at (rw (← c.from.view_is) at c.requires.1) in
    let order = ends-order c.from.inside.ends.items (length c.from.inside.bytes.items) c.args.start c.args.end c.from.invariant.rises c.requires.0 last in
    let low = (ends-low 0 c.from.inside.ends.items (length c.from.inside.bytes.items) c.args.end c.from.invariant.rises).1 in
    let places = (part-places c.from.inside.ends.items c.from.inside.bytes.items _ c.args.start c.args.end c.from.invariant.rises c.requires.0 last).0 in
    let within = rw (← c.end_of-first.ensures, ← c.end_of-last.ensures) at (ends-within _ _ _ places) in
    let size = length-part c.end_of-first.result (c.end_of-last.result - c.end_of-first.result) c.from.inside.bytes.items (omega (arith, low, order, c.end_of-first.ensures, c.end_of-last.ensures)) in
    let grown = rw (c.as_slice.ensures.value, size) at c.in_ok-extend_from_slice.ensures.len in
    rw c.as_slice-2.ensures.value (λ i d l.
    let r = within i d l in
    (r.0, omega (arith, r.0, r.1, grown, c.len-size.ensures)))

pub invariant_of-self-in-Ok : goal.invariant_of-self-in-Ok
invariant_of-self-in-Ok c =
    let last = rw (length-cut 0 c.from.inside.ends.items c.from.inside.bytes.items) at (rw (← c.from.view_is) at c.requires.1) in
    let size : c.len-size.result ≡ length c.self.inside.bytes.items = omega (arith, c.len-size.ensures, c.self.inside.bytes.ok.0) in
    rw (c.in-Ok.ensures.ok, c.in_ok-extend_from_slice.ensures.items, c.as_slice.ensures.value, c.as_slice-2.ensures.value, c.end_of-first.ensures, c.end_of-last.ensures, size)
    (holds-part _ _ _ _ c.args.start c.args.end c.self.invariant c.from.invariant c.requires.0 last)

pub returns-clause-ok : goal.returns-clause-ok
returns-clause-ok c =
    let last = rw (length-cut 0 c.from.inside.ends.items c.from.inside.bytes.items) at (rw (← c.from.view_is) at c.requires.1) in
    let size : c.len-size.result ≡ length c.self.inside.bytes.items = omega (arith, c.len-size.ensures, c.self.inside.bytes.ok.0) in
    rw (← c.self.view_is, ← c.from.view_is, c.in-Ok.ensures.ok, c.in_ok-extend_from_slice.ensures.items, c.as_slice.ensures.value, c.as_slice-2.ensures.value, c.end_of-first.ensures, c.end_of-last.ensures, size)
    (cut-part _ _ _ _ _ c.args.start c.args.end c.self.invariant.rises c.from.invariant.rises c.requires.0 last)
