use Rattle.std.proofs.Common.{◌≡◌, ◌+◌, ◌∙◌, length, refl, ap, arith, append_assoc, length-append}
use Rattle.csv.specs.Writing.{default_writer, row_body}
use Rattle.csv_records.proofs.TextFacts.{blank-no, blank-yes}
use Rattle.csv_records.proofs.writing.push_record.Goals as goal
use Rattle.csv_records.proofs.writing.push_record.Goals.{then-len-lt2+then-len-size+in_ok-extend_from_slice, else-len-lt2, else-len-lt2-via-then-len-lt2+else-len-size, else-len-lt2-via-else-len-lt2}

pub returns : goal.returns
returns c =
    let body = c.in_ok-push_fields.ensures in
    let size : length c.push_fields.new.text.items ≡ length c.args.text.now.items + length (row_body default_writer c.args.from.now) = ap length body ∙ length-append _ _ in
    elim c.if-len-lt2.branch [
      | then-len-lt2+then-len-size+in_ok-extend_from_slice w ↦
          let blank = blank-yes c.args.from.now (omega (arith, c.len.ensures, w.if-len-lt2.true)) (omega (arith, size, c.len-size.ensures, w.len-then-len-lt2.ensures, w.if-len-size.true)) in
          rw (c.in_ok-push.ensures.items, w.text-is, w.in_ok-extend_from_slice.ensures.items, body, blank, append_assoc, append_assoc) refl
      | else-len-lt2 w ↦ elim w.else-len-lt2.branch [
        | else-len-lt2-via-then-len-lt2+else-len-size v ↦
            let blank = blank-no c.args.from.now (λ few none. absurd (omega (arith, none, size, c.len-size.ensures, v.len-then-len-lt2.ensures, v.if-len-size.false))) in
            rw (c.in_ok-push.ensures.items, w.text-is, body, blank, append_assoc) refl
        | else-len-lt2-via-else-len-lt2 v ↦
            let blank = blank-no c.args.from.now (λ few none. absurd (omega (arith, few, c.len.ensures, v.if-len-lt2.false))) in
            rw (c.in_ok-push.ensures.items, w.text-is, body, blank, append_assoc) refl
      ]
    ]
