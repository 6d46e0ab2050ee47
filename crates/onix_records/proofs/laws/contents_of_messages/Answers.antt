use Rattle.onix_records.proofs.ContentsBack.{contents-back}
use Rattle.onix_records.proofs.TermLaws.{TermLaws}
use Rattle.onix_records.proofs.laws.contents_of_messages.Goals as goal

pub returns : goal.returns
returns c =
    let laws : TermLaws = record {
      digits = c.number_reads_back.ensures.digits;
      quantity = c.number_reads_back.ensures.quantity;
      amount = c.amount_reads_back.ensures;
      day = c.day_reads_back.ensures.read;
      quantity_range = c.terms_are_in_range.ensures.quantity;
      amount_range = c.terms_are_in_range.ensures.amount;
      day_range = c.terms_are_in_range.ensures.day;
      territory = c.territory_reads_back.ensures.read;
      territory_short = c.territory_reads_back.ensures.short;
      territory_letters = c.territory_reads_back.ensures.letters;
    } in
    contents-back laws
