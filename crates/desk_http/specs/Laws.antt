-- Laws of what is asked for.
use Rattle.std.specs.Prelude.{◌≡◌, ◌≤◌, ◌+◌, ℕ, List, length}
use Rattle.desk_http.specs.declared.exchange.Wanted.{Wanted}
use Rattle.csv_records.specs.RecordTexts.{limit}
use Rattle.http_requests.specs.Head.{head_limit}
use Rattle.desk_http.specs.Asks.{AsksFor}
use Rattle.desk_http.specs.Serves.{AreWanted}

-- what an input asks for is one thing
abbrev pub AsksOnce : Type 0
AsksOnce = (input : List ℕ) (a b : Wanted) → AsksFor input a → AsksFor input b → a ≡ b

-- there is no input that asks for nothing
abbrev pub AsksSomething : Type 0
AsksSomething = (input : List ℕ) → ¬ ((wanted : Wanted) → ¬ (AsksFor input wanted))

-- what is wanted of an input is at most a head and a body
abbrev pub WantedIsBounded : Type 0
WantedIsBounded = (taken : List ℕ) → AreWanted taken → length taken ≤ head_limit + limit
