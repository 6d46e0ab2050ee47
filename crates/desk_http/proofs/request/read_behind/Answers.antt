use Rattle.std.proofs.Common.{◌++◌, Err, sym}
use Rattle.series_rules.specs.declared.requests.Request.{Request}
use Rattle.desk_http.specs.Asks.{asks_of, most_behind, request_at}
use Rattle.desk_http.specs.Routing.{route_asked}
use Rattle.http_requests.specs.declared.fault.InputFault.TheVariants.{Refused}
use Rattle.http_requests.specs.Steps.{Gives}
use Rattle.http_requests.proofs.KnownLemmas.{IfSome-all, IfSome-map, gives_next, gives_refused}
use Rattle.desk_http.proofs.request.read_behind.Goals as goal

pub returns-in-Ok-clause-gives : goal.returns-in-Ok-clause-gives
unfolding asks_of
returns-in-Ok-clause-gives g c h is =
    IfSome-map (g.R.Read.remaining c.args.reader.now) (λ more. Gives c.read_at.result (request_at h (c.args.behind.now ++ more) c.in-Ok.route))
    (λ more. Gives c.read_at.result (asks_of h (c.args.behind.now ++ more)))
    (λ more gives. gives_next (route_asked h) c.in-Ok.route (request_at h (c.args.behind.now ++ more)) c.read_at.result (sym (c.in-Ok.ensures h is)) gives)
    (c.read_at.ensures.gives h is)

pub returns-in-Err-clause-gives : goal.returns-in-Err-clause-gives
unfolding asks_of
returns-in-Err-clause-gives g c h is =
    IfSome-all (g.R.Read.remaining c.args.reader.now) (λ more. Gives {A = Request} (Err (Refused c.in-Err.why)) (asks_of h (c.args.behind.now ++ more)))
    (λ more. gives_refused (route_asked h) (request_at h (c.args.behind.now ++ more)) (Refused c.in-Err.why) (sym (c.in-Err.ensures h is)))

pub returns-in-Ok-clause-taken : goal.returns-in-Ok-clause-taken
unfolding most_behind
returns-in-Ok-clause-taken g c h is = rw (sym (c.in-Ok.ensures h is)) (c.read_at.ensures.taken h is)
