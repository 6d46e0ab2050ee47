use Rattle.std.proofs.Common.{◌++◌, refl, sym}
use Rattle.http_requests.specs.Posted.{most_posted, records_behind, records_posted, size_asked}
use Rattle.http_requests.specs.Steps.{Gives}
use Rattle.http_requests.proofs.KnownLemmas.{IfSome-all, IfSome-map, gives_next}
use Rattle.http_requests.proofs.body.read_posted.Goals as goal

pub returns-in-Ok-clause-gives : goal.returns-in-Ok-clause-gives
unfolding records_posted
returns-in-Ok-clause-gives g c h is =
    IfSome-map (g.R.Read.remaining c.args.reader.now) (λ more. Gives c.read_body_records.result (records_behind c.in-Ok.size (c.args.behind.now ++ more))) _
    (λ more gives. gives_next (size_asked h) c.in-Ok.size (λ size. records_behind size (c.args.behind.now ++ more)) c.read_body_records.result (sym (c.in-Ok.ensures.size h is)) gives)
    c.read_body_records.ensures.gives

pub returns-in-Err-clause-gives : goal.returns-in-Err-clause-gives
unfolding records_posted
returns-in-Err-clause-gives g c h is =
    IfSome-all (g.R.Read.remaining c.args.reader.now) _
    (λ more. rw (← c.in-Err.ensures.size h is) refl)

pub returns-in-Ok-clause-taken : goal.returns-in-Ok-clause-taken
unfolding most_posted
returns-in-Ok-clause-taken g c h is = rw (← c.in-Ok.ensures.size h is) c.read_body_records.ensures.taken
