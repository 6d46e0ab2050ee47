use Rattle.std.proofs.Common.{◌≡◌, take}
use Rattle.csv_records.specs.RecordTexts.{records_text}
use Rattle.csv_records.proofs.writing.write_each.Given as goal

abbrev pub invariant-loop-i : goal.invariant-loop-i
invariant-loop-i l = l.text.items ≡ records_text (take l.i l.records)
