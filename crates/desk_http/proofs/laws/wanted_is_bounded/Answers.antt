use Rattle.desk_http.proofs.WantedLemmas.{wanted_is_bounded}
use Rattle.desk_http.proofs.laws.wanted_is_bounded.Goals as goal

pub returns : goal.returns
returns c = wanted_is_bounded
