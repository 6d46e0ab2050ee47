use Rattle.desk_http.proofs.AsksLaws.{asks_something}
use Rattle.desk_http.proofs.laws.asks_something.Goals as goal

pub returns : goal.returns
returns c = asks_something
