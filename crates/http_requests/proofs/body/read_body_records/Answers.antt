use Rattle.std.proofs.Common.{◌≡◌, ◌++◌, ℕ, List, Err, arith, refl, rules, take}
use Rattle.http_requests.specs.Posted.{body_of, records_behind, records_in}
use Rattle.http_requests.specs.Steps.{Gives}
use Rattle.http_requests.proofs.KnownLemmas.{IfSome-all, IfSome-map, fault_gives, gives_next}
use Rattle.http_requests.proofs.PostedLemmas.{body_short, body_there}
use Rattle.http_requests.proofs.body.read_body_records.Goals as goal

pub returns-in_err-body-clause-gives : goal.returns-in_err-body-clause-gives
returns-in_err-body-clause-gives g c =
    let is : c.from_residual.result ≡ Err c.in_err-body.field-0.0 = search rules in
    rw is (IfSome-all (g.R.Read.remaining c.args.reader.now) (λ more. Gives {A = List (List (List ℕ))} (Err c.in_err-body.field-0.0) (records_behind c.args.size (c.args.behind.now ++ more)))
    (λ more. fault_gives c.in_err-body.field-0.0 (records_behind c.args.size (c.args.behind.now ++ more)) c.in_err-body.ensures.fault))

pub returns-then-len-size-clause-gives : goal.returns-then-len-size-clause-gives
unfolding records_behind
returns-then-len-size-clause-gives g c =
    IfSome-map (g.R.Read.remaining c.args.reader.now) (λ more. c.in_ok-body.body.items ≡ take c.args.size (c.args.behind.now ++ more)) _
    (λ more is. rw (body_short c.args.size (c.args.behind.now ++ more) c.in_ok-body.body.items is (omega (arith, c.if-len-size.true))) refl)
    c.in_ok-body.ensures.front

pub returns-clause-gives : goal.returns-clause-gives
unfolding records_behind
returns-clause-gives g c =
    IfSome-map (g.R.Read.remaining c.args.reader.now) (λ more. c.in_ok-body.body.items ≡ take c.args.size (c.args.behind.now ++ more))
    (λ more. Gives c.records_in.result (records_behind c.args.size (c.args.behind.now ++ more)))
    (λ more is. gives_next (body_of c.args.size (c.args.behind.now ++ more)) c.in_ok-body.body.items records_in c.records_in.result
    (body_there c.args.size (c.args.behind.now ++ more) c.in_ok-body.body.items is (omega (arith, c.if-len-size.false))) (rw c.as_slice.ensures.value at c.records_in.ensures))
    c.in_ok-body.ensures.front
