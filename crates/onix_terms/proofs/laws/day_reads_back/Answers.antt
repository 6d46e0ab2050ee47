use Rattle.onix_terms.proofs.DayTexts.{reads-back}
use Rattle.onix_terms.proofs.OneText.{one-text}
use Rattle.onix_terms.proofs.laws.day_reads_back.Goals as goal

pub returns : goal.returns
returns c = record { read = reads-back; only = one-text }
