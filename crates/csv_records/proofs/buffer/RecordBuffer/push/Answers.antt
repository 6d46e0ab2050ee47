use Rattle.std.proofs.Common.{List, ℕ, length, length-append, arith}
use Rattle.csv_records.proofs.CutFacts.{cut-push, ends-push}
use Rattle.csv_records.proofs.buffer.RecordBuffer.push.Goals as goal

pub invariant_of-self-2 : goal.invariant_of-self-2
invariant_of-self-2 c =
    let added = c.in_ok-push_record.ensures.ok in
    let ended = c.in_ok-end_record.ensures.ok in
    rw (ended.1, ended.0) (ends-push 0 c.self.inside.ends.items (length c.self.inside.fields) _ c.self.invariant (rw added (omega (arith, length-append {A = List ℕ}))))

pub returns-clause-ok : goal.returns-clause-ok
returns-clause-ok c =
    let added = c.in_ok-push_record.ensures.ok in
    let ended = c.in_ok-end_record.ensures.ok in
    rw (← c.self.view_is, ended.1, ended.0, added) (cut-push 0 c.self.inside.ends.items c.self.inside.fields _ _ c.self.invariant (length-append _ _))
