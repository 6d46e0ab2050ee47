use Rattle.std.specs.Io.KnownBytes.{Appends, Consumes}
use Rattle.program_commands.proofs.sending.take_all.Given as goal

-- what came so far is written
abbrev pub invariant-taking : goal.invariant-taking
invariant-taking g l = record {
  so_far : Consumes (g.S.Read.remaining l.fn.from) (g.S.Read.remaining l.from) l.bytes.items;
  written : Appends (g.W.Write.contents l.fn.output) (g.W.Write.contents l.output) l.bytes.items;
}
