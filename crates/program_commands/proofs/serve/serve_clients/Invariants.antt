use Rattle.std.proofs.Common.{◌≡◌, List, length}
use Rattle.std.specs.Prelude.{All}
use Rattle.std.specs.List.{flat_map}
use Rattle.std.specs.Io.KnownBytes.{Appends}
use Rattle.series_rules.specs.Steps.{Asked}
use Rattle.program_commands.specs.Connections.{Connection, IsServed, lines_of}
use Rattle.program_commands.proofs.serve.serve_clients.Given as goal

-- each connection so far was served, and has its line
abbrev pub invariant-serving : goal.invariant-serving
invariant-serving g l = record {
  served : List Connection;
  counted : length served ≡ l._served;
  takes : g.C.Clients.takes_batches l.clients ≡ g.C.Clients.takes_batches l.fn.clients;
  all : All (IsServed (g.C.Clients.takes_batches l.fn.clients)) served;
  lines : Appends (g.O.Write.contents l.fn.streams.output) (g.O.Write.contents l.streams.output) (lines_of served);
  asked : Asked g.D.Desk.seen l.precedence l.fn.desk l.desk (flat_map (λ (c : Connection). c.steps) served);
}
