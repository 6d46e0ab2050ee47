use Rattle.onix_terms.proofs.NamedCountries.{territory-named}
use Rattle.onix_terms.proofs.laws.territory_has_named_countries.Goals as goal

pub returns-clause-included : goal.returns-clause-included
returns-clause-included c = λ i r e t is. (territory-named i r e t is).0

pub returns-clause-excluded : goal.returns-clause-excluded
returns-clause-excluded c = λ i r e t is. (territory-named i r e t is).1
