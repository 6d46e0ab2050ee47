use Rattle.desk_http.proofs.AsksLaws.{asks_once}
use Rattle.desk_http.proofs.laws.asks_once.Goals as goal

pub returns : goal.returns
returns c = asks_once
