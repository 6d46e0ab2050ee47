use Rattle.desk_catalogue.proofs.StorableLemmas.{contents-storable}
use Rattle.desk_catalogue.proofs.laws.contents_are_storable.Goals as goal

pub returns : goal.returns
returns c = contents-storable
