-- What the bytes of a connection ask for: a request to the desk, or a refusal before it is asked.
use Rattle.std.specs.Prelude.{ℕ, List, Option, Result, Ok, Err, ⊤}
use Rattle.httparse.specs.Grammar.{RequestHead}
use Rattle.series_rules.specs.declared.requests.Request.{Request}
use Rattle.series_rules.specs.declared.requests.Request.TheVariants.{AskCalendar, AskCatalogue, AskChoice, AskGaps, AskPrice, Deliver}
use Rattle.http_requests.specs.declared.fault.InputFault.{InputFault}
use Rattle.http_requests.specs.declared.fault.InputFault.TheVariants as fault
use Rattle.http_requests.specs.declared.refusal.Refusal.{Refusal}
use Rattle.http_requests.specs.declared.refusal.Refusal.TheVariants as refusal
use Rattle.desk_http.specs.declared.exchange.Wanted.{Wanted}
use Rattle.desk_http.specs.declared.exchange.Wanted.TheVariants.{Asked, Refused}
use Rattle.desk_http.specs.declared.routes.Route.{Route}
use Rattle.desk_http.specs.declared.routes.Route.TheVariants as route
use Rattle.http_requests.specs.Head.{HasHead, IsRefused}
use Rattle.desk_http.specs.Keys.{part_at}
use Rattle.http_requests.specs.Posted.{most_posted, records_posted}
use Rattle.desk_http.specs.Questions.{calendar_asked, prices_asked, series_asked}
use Rattle.desk_http.specs.Paths.{LeadsTo}
use Rattle.desk_http.specs.Routing.{path_of, query_of, route_asked, route_taken}
use Rattle.http_requests.specs.Steps.{◌>>=◌}

-- the question of a GET, by its route, the variable part of the path, and the query.
-- The path of messages asks no question
abbrev pub question_of : Route → List ℕ → List ℕ → Result Request Refusal
question_of route.Messages part query = Err refusal.NotFound
question_of route.Price part query =
    prices_asked part query >>= λ asked. Ok (AskPrice asked.0 asked.1)
question_of route.Choice part query =
    prices_asked part query >>= λ asked. Ok (AskChoice asked.0 asked.1)
question_of route.Calendar part query =
    calendar_asked part query >>= λ asked. Ok (AskCalendar asked.0 asked.1)
question_of route.Gaps part query = series_asked part >>= λ name. Ok (AskGaps name)
question_of route.Catalogue part query =
    series_asked part >>= λ name. Ok (AskCatalogue name)

-- of a head and the bytes behind it, with the variable part of the path
module _ (h : RequestHead) (rest part : List ℕ) where
  -- the request of a route: a delivery of the records in the body, or a question
  abbrev pub request_by : Route → Result Request Refusal
  request_by route.Messages = records_posted h rest >>= λ records. Ok (Deliver records)
  request_by route = question_of route part (query_of h.target)

  -- what is asked for where the path leads to that route, or to none: the refusal that comes first,
  -- or the request
  abbrev pub asked_at : Option Route → Result Request Refusal
  asked_at found = route_taken found h >>= request_by

-- the question of a GET by the target of a head
abbrev pub question_at : Route → List ℕ → Result Request Refusal
question_at route target = question_of route (part_at route (path_of target)) (query_of target)

-- the request of a route
abbrev pub request_at : RequestHead → List ℕ → Route → Result Request Refusal
request_at h rest route.Messages = records_posted h rest >>= λ records. Ok (Deliver records)
request_at h rest route = question_at route h.target

-- what a head and the bytes behind it ask for
unfoldable pub asks_of : RequestHead → List ℕ → Result Request Refusal
asks_of h rest = route_asked h >>= request_at h rest

-- how many bytes behind a head are looked at, by the route: those of the body of a delivery, and
-- none for a question
abbrev pub most_at : RequestHead → Route → ℕ
most_at h route.Messages = most_posted h
most_at h _ = 0

-- none where there is no route
abbrev pub most_by : RequestHead → Result Route Refusal → ℕ
most_by h (Ok route) = most_at h route
most_by h (Err why) = 0

-- how many bytes behind a head are looked at
unfoldable pub most_behind : RequestHead → ℕ
most_behind h = most_by h (route_asked h)

-- what is asked for, where these steps came to that
abbrev pub wanted_by : Result Request Refusal → Wanted
wanted_by (Ok r) = Asked r
wanted_by (Err why) = Refused why

-- what an input asks for, by its bytes alone: the refusal of one without a head, or what its head
-- and body ask for, the first step that refuses deciding
pub data AsksFor : List ℕ → Wanted → Type 0 where
  without_head : {input : List ℕ} {why : Refusal} → IsRefused input why
      → AsksFor input (Refused why)
  with_head : {input rest : List ℕ} {h : RequestHead} (part : List ℕ) (found : Option Route)
      → HasHead input h rest → LeadsTo (path_of h.target) found part
      → AsksFor input (wanted_by (asked_at h rest part found))

-- P of what was asked for, unless a read failed or memory ran out
abbrev pub IfDecided : Result Request InputFault → (Wanted → Type 0) → Type 0
IfDecided (Ok r) P = P (Asked r)
IfDecided (Err (fault.Refused why)) P = P (Refused why)
IfDecided (Err fault.Read) P = ⊤
IfDecided (Err fault.Memory) P = ⊤
