use Rattle.std.proofs.Common.{◌≤◌, length, sym, arith}
use Rattle.std.proofs.lemmas.List.{take_all}
use Rattle.csv_records.proofs.CutFacts.{length-cut, cut-take, holds-take}
use Rattle.csv_records.proofs.fields.FieldBuffer.truncate.Goals as goal

pub invariant_of-self : goal.invariant_of-self
invariant_of-self c =
    let size = c.len.ensures in
    let k : c.args.count ≤ length c.self.inside.ends.items = omega (arith, c.self.inside.ends.ok.0) in
    rw (c.truncate.ensures.items, c.truncate-then-count-len.ensures.items) (holds-take _ _ c.args.count c.end_of-end.result c.self.invariant k c.end_of-end.ensures)

pub returns-then-count-len : goal.returns-then-count-len
returns-then-count-len c =
    let k : c.args.count ≤ length c.self.inside.ends.items = omega (arith, c.self.inside.ends.ok.0) in
    rw (← c.self.view_is, c.truncate.ensures.items, c.truncate-then-count-len.ensures.items)
    (cut-take 0 _ _ (length c.self.inside.bytes.items) c.args.count c.end_of-end.result c.self.invariant.rises k (omega (arith, c.end_of-end.ensures)))

pub returns-else-count-len : goal.returns-else-count-len
returns-else-count-len c =
    let n = length-cut 0 c.self.inside.ends.items c.self.inside.bytes.items in
    rw (← c.self.view_is) (sym (take_all c.args.count _ (omega (arith, n, c.self.inside.ends.ok.0))))
