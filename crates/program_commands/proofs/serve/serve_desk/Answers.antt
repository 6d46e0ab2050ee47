use Rattle.std.proofs.Common.{[], refl, subst}
use Rattle.std.proofs.KnownBytes.{Appends-nil}
use Rattle.std.specs.Io.KnownBytes.{Appends}
use Rattle.std.specs.Option.{is_some}
use Rattle.series_rules.specs.Steps.{Asked}
use Rattle.program_commands.proofs.ServingLemmas.{served_ends, unserved_ends}
use Rattle.program_commands.specs.CommandEnds.{ServeEnds}
use Rattle.program_commands.specs.Serving.{listening_line}
use Rattle.program_commands.proofs.serve.serve_desk.Goals as goal

pub returns-in-Err-clause-end : goal.returns-in-Err-clause-end
returns-in-Err-clause-end g c =
    let asked = Asked g.D.Desk.seen c.args.precedence.now c.args.desk.now c.args.desk.now in
    let written = Appends (g.O.Write.contents c.args.streams.now.output) (g.O.Write.contents c.args.streams.now.output) in
    unserved_ends asked written (is_some c.args.place.batches) c.args.place.port c.args.place.requests c.report.result refl c.report.ensures
    ([], listening_line c.args.place.port, refl, Appends-nil (g.O.Write.contents c.args.streams.now.output))

pub returns-in-Err-open-clause-end : goal.returns-in-Err-open-clause-end
returns-in-Err-open-clause-end g c =
    let asked = Asked g.D.Desk.seen c.args.precedence.now c.args.desk.now c.args.desk.now in
    let written = Appends (g.O.Write.contents c.args.streams.now.output) (g.O.Write.contents c.args.streams.now.output) in
    unserved_ends asked written (is_some c.args.place.batches) c.args.place.port c.args.place.requests c.report_unopened.result refl c.report_unopened.ensures
    ([], listening_line c.args.place.port, refl, Appends-nil (g.O.Write.contents c.args.streams.now.output))

pub returns-in-Err-print_listening-clause-end : goal.returns-in-Err-print_listening-clause-end
returns-in-Err-print_listening-clause-end g c =
    let asked = Asked g.D.Desk.seen c.args.precedence.now c.args.desk.now c.args.desk.now in
    let written = Appends (g.O.Write.contents c.args.streams.now.output) (g.O.Write.contents c.print_listening.new.output) in
    unserved_ends asked written (is_some c.args.place.batches) c.args.place.port c.args.place.requests c.report-in-Err-print_listening.result refl c.report-in-Err-print_listening.ensures c.in-Err-print_listening.ensures

pub returns-clause-end : goal.returns-clause-end
returns-clause-end g c =
    let clients = c.in-Ok-open.clients in
    let asked = Asked g.D.Desk.seen c.args.precedence.now c.args.desk.now c.serve_clients.new.desk in
    let was = g.O.Write.contents c.args.streams.now.output in
    let before = g.O.Write.contents c.print_listening.new.output in
    let holds = g.O.Write.contents c.serve_clients.new.streams.output in
    let status = c.serve_clients.result in
    subst (λ b. ServeEnds asked (Appends was holds) b c.args.place.port c.args.place.requests status) c.in-Ok-open.ensures
    (served_ends asked was before holds (g.N.Opened.Clients.takes_batches clients) c.args.place.port c.args.place.requests status c.in-Ok-print_listening.ensures c.serve_clients.ensures.end)
