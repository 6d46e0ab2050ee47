use Rattle.onix_terms.proofs.AmountTexts.{reads-back}
use Rattle.onix_terms.proofs.laws.amount_reads_back.Goals as goal

pub returns : goal.returns
returns c = reads-back
