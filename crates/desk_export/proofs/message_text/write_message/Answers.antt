use Rattle.std.proofs.Common.{ap, ◌∙◌}
use Rattle.csv_records.specs.RecordTexts.{records_text}
use Rattle.desk_export.proofs.FilledRecords.{if_ok, message_made}
use Rattle.desk_export.proofs.message_text.write_message.Goals as goal

pub returns : goal.returns
returns c =
    if_ok c.write_records.result
    (λ text is contents same. is ∙ ap records_text (c.as_records.ensures ∙ message_made c.one_text.ensures.read _ _ _ _ _ (c.in_ok-frame.ensures c.new-whole.ensures) contents same))
    c.write_records.ensures
