use Rattle.onix_terms.proofs.CodeOrder.{territory-in_order}
use Rattle.onix_terms.proofs.laws.territory_is_in_order.Goals as goal

pub returns-clause-included : goal.returns-clause-included
returns-clause-included c = λ i r e t is. (territory-in_order i r e t is).0

pub returns-clause-excluded : goal.returns-clause-excluded
returns-clause-excluded c = λ i r e t is. (territory-in_order i r e t is).1
