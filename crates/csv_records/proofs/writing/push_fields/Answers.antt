use Rattle.std.proofs.Common.{◌≡◌, ◌==◌, true, false, length, refl, take, arith, append_assoc, length-take-le}
use Rattle.std.proofs.lemmas.Bool.Decides.{nat_tests}
use Rattle.csv_records.proofs.TextFacts.{body-more}
use Rattle.csv_records.proofs.writing.push_fields.Goals as goal
use Rattle.csv_records.proofs.writing.push_fields.Goals.{then-i-gt0+in_ok-push, else-i-gt0}

pub loop-i-preserved : goal.loop-i-preserved
loop-i-preserved c =
    let size : length (take c.loop-i.i c.args.from.now) ≡ c.loop-i.i = length-take-le c.loop-i.i c.args.from.now (omega (arith, c.loop-i-test.true, c.len-i-end.ensures)) in
    let step = body-more c.args.from.now c.loop-i.i c.at.result.now c.at.ensures size in
    elim c.if-i-gt0.branch [
      | then-i-gt0+in_ok-push w ↦
          let behind : (c.loop-i.i == 0) ≡ false = grind (arith, nat_tests, w.if-i-gt0.true) in
          rw (step, c.in_ok-push_field.ensures, c.as_bytes.ensures.value, w.text-is, w.in_ok-push.ensures.items, c.loop-i.invariant, append_assoc, append_assoc, behind) refl
      | else-i-gt0 w ↦
          let first : (c.loop-i.i == 0) ≡ true = grind (arith, nat_tests, w.if-i-gt0.false) in
          rw (step, c.in_ok-push_field.ensures, c.as_bytes.ensures.value, w.text-is, c.loop-i.invariant, append_assoc, first) refl
    ]
