use Rattle.std.proofs.Common.{◌≡◌, ◌+◌, length, ap, arith}
use Rattle.csv_records.proofs.CutFacts.{cut-push, holds-push}
use Rattle.csv_records.proofs.fields.FieldBuffer.push.Goals as goal

pub invariant_of-self-in-Ok : goal.invariant_of-self-in-Ok
invariant_of-self-in-Ok c =
    let grown = c.in_ok-extend_from_slice.ensures.items in
    let size : c.len-end.result ≡ length c.self.inside.bytes.items + length c.args.text.now =
    omega (arith, c.in_ok-extend_from_slice.ensures.len, c.self.inside.bytes.ok.0, ap length c.as_bytes.ensures.value) in
    rw (c.in-Ok.ensures.items, grown, c.as_bytes.ensures.value) (holds-push _ _ _ _ c.self.invariant c.utf8.text size)

pub returns-clause-ok : goal.returns-clause-ok
returns-clause-ok c =
    let grown = c.in_ok-extend_from_slice.ensures.items in
    let size : c.len-end.result ≡ length c.self.inside.bytes.items + length c.args.text.now =
    omega (arith, c.in_ok-extend_from_slice.ensures.len, c.self.inside.bytes.ok.0, ap length c.as_bytes.ensures.value) in
    rw (← c.self.view_is, c.in-Ok.ensures.items, grown, c.as_bytes.ensures.value) (cut-push 0 _ _ _ _ c.self.invariant.rises size)
