use Rattle.desk_export.proofs.FieldLemmas.{NumberLaws}
use Rattle.desk_export.proofs.MessageBack.{count-again, message-again}
use Rattle.desk_export.proofs.laws.messages_read_back.Goals as goal

pub returns : goal.returns
returns c =
    let laws : NumberLaws = record {
      digits = c.number_reads_back.ensures.digits;
      number = c.number_reads_back.ensures.number;
      range = c.terms_are_in_range.ensures.number;
    } in
    record {
      read = message-again laws c.contents_of_messages.ensures;
      count = count-again laws c.contents_of_messages.ensures;
    }
