use Rattle.onix_records.proofs.EndedFronts.{ended-fronts}
use Rattle.onix_records.proofs.Explained.{computed-none}
use Rattle.onix_records.proofs.Fronts.{fronts}
use Rattle.onix_records.proofs.RowParts.{message-computed, message-meant}
use Rattle.onix_records.proofs.laws.messages.Goals as goal

pub returns : goal.returns
returns c = record { computed = message-computed; meant = message-meant; none = computed-none; fronts = fronts; ended = ended-fronts }
