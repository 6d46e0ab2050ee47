use Rattle.std.proofs.Common.{◌∙◌, ◌++◌, ℕ, List, ap, sym}
use Rattle.csv.specs.Writing.{default_writer, row_text}
use Rattle.csv_records.proofs.TextFacts.{text-nil, text-more}
use Rattle.csv_records.proofs.writing.write_each.Goals as goal

pub loop-i-init : goal.loop-i-init
loop-i-init c = c.in_ok-text.ensures ∙ sym text-nil

pub loop-i-preserved : goal.loop-i-preserved
loop-i-preserved c =
    c.in_ok-push_record.ensures ∙ ap (λ (t : List ℕ). t ++ row_text default_writer c.record.result) c.loop-i.invariant
    ∙ sym (text-more c.args.records.now c.loop-i.i c.record.result c.record.ensures)
