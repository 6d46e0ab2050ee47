use Rattle.onix_terms.proofs.DigitTexts.{digits-decimal}
use Rattle.onix_terms.proofs.ReadBack.{number-decimal, quantity-decimal}
use Rattle.onix_terms.proofs.laws.number_reads_back.Goals as goal

pub returns : goal.returns
returns c = record { digits = digits-decimal; number = number-decimal; quantity = quantity-decimal }
