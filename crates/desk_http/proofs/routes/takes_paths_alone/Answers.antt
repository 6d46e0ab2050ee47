use Rattle.desk_http.proofs.PathLemmas.{only, takes}
use Rattle.desk_http.proofs.routes.takes_paths_alone.Goals as goal

pub returns-clause-takes : goal.returns-clause-takes
returns-clause-takes c = λ path route part is. (takes path route part is).0

pub returns-clause-part : goal.returns-clause-part
returns-clause-part c = λ path route part is. (takes path route part is).1

pub returns-clause-only : goal.returns-clause-only
returns-clause-only c = only
