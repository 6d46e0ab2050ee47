use Rattle.std.proofs.Common.{subst}
use Rattle.std.specs.Io.KnownBytes.{Appends}
use Rattle.series_rules.specs.Steps.{Asked}
use Rattle.program_commands.specs.Unknown.{GapsGive}
use Rattle.program_commands.proofs.gaps.ask.Goals as goal

pub returns-in-Some : goal.returns-in-Some
returns-in-Some g c =
    subst (λ name. GapsGive (Asked g.D.Desk.seen c.args.precedence.now c.args.desk.now c.run_request.new.desk) (Appends (g.W.Write.contents c.args.writer.now) (g.W.Write.contents c.run_request.new.writer)) name c.run_request.result)
    c.in-Some.ensures c.run_request.ensures
