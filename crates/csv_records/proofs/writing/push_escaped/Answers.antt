use Rattle.std.proofs.Common.{◌≡◌, ◌==◌, true, false, get_or, refl, arith, append_assoc}
use Rattle.std.proofs.lemmas.Bool.Decides.{nat_tests}
use Rattle.csv_records.proofs.TextFacts.{escaped-nil, escaped-more, other-byte, quote-byte}
use Rattle.csv_records.proofs.writing.push_escaped.Goals as goal
use Rattle.csv_records.proofs.writing.push_escaped.Goals.{then-field-i-eq34+in_ok-push, else-field-i-eq34}

pub loop-i-init : goal.loop-i-init
loop-i-init c = escaped-nil c.args.text.now.items

pub loop-i-preserved : goal.loop-i-preserved
loop-i-preserved c =
    let step = escaped-more c.args.field.now c.loop-i.i 0 (omega (arith, c.loop-i-test.true)) in
    elim c.if-field-i-eq34.branch [
      | then-field-i-eq34+in_ok-push w ↦
          let is : (get_or c.args.field.now c.loop-i.i 0 == 34) ≡ true = grind (arith, nat_tests, w.if-field-i-eq34.true) in
          rw (step, c.in_ok-push-2.ensures.items, w.text-is, w.in_ok-push.ensures.items, c.loop-i.invariant, append_assoc, quote-byte _ is, append_assoc) refl
      | else-field-i-eq34 w ↦
          let is : (get_or c.args.field.now c.loop-i.i 0 == 34) ≡ false = grind (arith, nat_tests, w.if-field-i-eq34.false) in
          rw (step, c.in_ok-push-2.ensures.items, w.text-is, c.loop-i.invariant, append_assoc, other-byte _ is) refl
    ]
