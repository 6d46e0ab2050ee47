use Rattle.std.proofs.Common.{ℕ, List}
use Rattle.std.specs.Io.KnownBytes.{Appends, Consumes}
use Rattle.program_files.proofs.spool.copy.Given as goal

-- what was read so far was written
abbrev pub invariant-copying : goal.invariant-copying
invariant-copying g l = record {
  written : List ℕ;
  appended : Appends (g.W.Write.contents l.fn.output) (g.W.Write.contents l.output) written;
  read : Consumes (g.R.Read.remaining l.fn.reader) (g.R.Read.remaining l.reader) written;
}
