use Rattle.std.proofs.Common.{◌≡◌, ◌++◌, Err, rules}
use Rattle.desk_http.specs.Asks.{AsksFor, IfDecided, asks_of}
use Rattle.http_requests.specs.HeadRead.{head_text}
use Rattle.http_requests.specs.Steps.{Gives}
use Rattle.desk_http.proofs.AskLemmas.{asked_for, known_then, refused_at_head, takes_behind}
use Rattle.desk_http.proofs.request.read_request.Goals as goal

pub returns-clause-asks : goal.returns-clause-asks
returns-clause-asks g c =
    let whole = c.in_ok-head.ensures.whole in
    known_then (λ input. IfDecided c.read_behind.result (AsksFor input)) (λ more. Gives c.read_behind.result (asks_of whole.0 (c.behind.result.now ++ more)))
    _ (g.R.Read.remaining c.read_head.new.reader) (head_text c.in_ok-head.head) c.in_ok-head.ensures.read
    (λ more gives. asked_for c.read_behind.result (head_text c.in_ok-head.head) c.behind.result.now more whole.0 (whole.1.reads.0, c.behind.ensures whole.0 whole.1) c.in_ok-head.ensures.limit gives)
    (c.read_behind.ensures.gives whole.0 whole.1)

pub returns-in_err-head-clause-asks : goal.returns-in_err-head-clause-asks
returns-in_err-head-clause-asks g c =
    let fault = c.in_err-head.field-0.0 in
    let is : c.from_residual.result ≡ Err fault = search rules in
    rw is (refused_at_head fault (g.R.Read.remaining c.args.reader.now) c.in_err-head.ensures.refused)

pub returns-clause-taken : goal.returns-clause-taken
returns-clause-taken g c =
    let whole = c.in_ok-head.ensures.whole in
    takes_behind _ (g.R.Read.remaining c.read_head.new.reader) (g.R.Read.remaining c.read_behind.new.reader) (head_text c.in_ok-head.head) c.behind.result.now whole.0
    (whole.1.reads.0, c.behind.ensures whole.0 whole.1) c.in_ok-head.ensures.limit c.in_ok-head.ensures.read (c.read_behind.ensures.taken whole.0 whole.1)
