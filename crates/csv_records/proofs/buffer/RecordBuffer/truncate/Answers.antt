use Rattle.std.proofs.Common.{◌≤◌, length, sym, arith}
use Rattle.std.proofs.lemmas.List.{length-take-le, take_all}
use Rattle.csv_records.proofs.CutFacts.{length-cut, cut-take, ends-low, ends-take}
use Rattle.csv_records.proofs.buffer.RecordBuffer.truncate.Goals as goal

pub invariant_of-self : goal.invariant_of-self
invariant_of-self c =
    let size = c.len.ensures in
    let k : c.args.count ≤ length c.self.inside.ends.items = omega (arith, c.self.inside.ends.ok.0) in
    let low = ends-low 0 c.self.inside.ends.items (length c.self.inside.fields) c.args.count c.self.invariant in
    rw (c.truncate-then-count-len.ensures, c.truncate.ensures.items, length-take-le c.end_of-end.result c.self.inside.fields (omega (arith, low.1, c.end_of-end.ensures)), c.end_of-end.ensures)
    (ends-take 0 c.self.inside.ends.items (length c.self.inside.fields) c.args.count c.self.invariant k)

pub returns-then-count-len : goal.returns-then-count-len
returns-then-count-len c =
    let k : c.args.count ≤ length c.self.inside.ends.items = omega (arith, c.self.inside.ends.ok.0) in
    rw (← c.self.view_is, c.truncate-then-count-len.ensures, c.truncate.ensures.items)
    (cut-take 0 _ _ (length c.self.inside.fields) c.args.count c.end_of-end.result c.self.invariant k (omega (arith, c.end_of-end.ensures)))

pub returns-else-count-len : goal.returns-else-count-len
returns-else-count-len c =
    let n = length-cut 0 c.self.inside.ends.items c.self.inside.fields in
    rw (← c.self.view_is) (sym (take_all c.args.count _ (omega (arith, n, c.self.inside.ends.ok.0))))
