use Rattle.std.proofs.Common.{◌≡◌, ◌<◌, ◌+◌, ◌-◌, length, sym, rules}
use Rattle.csv_records.proofs.CutFacts.{end_before-first, end_before-next}
use Rattle.csv_records.proofs.ends.end_of.Goals as goal

pub returns-then-count-eq0 : goal.returns-then-count-eq0
returns-then-count-eq0 c = rw c.if-count-eq0.true (sym (end_before-first 0 c.args.ends.now.items))

pub returns-else-count-eq0 : goal.returns-else-count-eq0
returns-else-count-eq0 c =
    let one : (c.args.count - 1) + 1 ≡ c.args.count = search rules in
    let lt : c.args.count - 1 < length c.args.ends.now.items = search rules in
    let e = rw one at (end_before-next 0 c.args.ends.now.items (c.args.count - 1) c.index.result.now lt) in
    cc
