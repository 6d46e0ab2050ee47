use Rattle.std.proofs.Common.{◌++◌, subst, sym, take}
use Rattle.std.specs.Io.KnownBytes.{Consumes}
use Rattle.std.proofs.KnownBytes.{Appends-trans, Consumes-trans}
use Rattle.program_files.proofs.TextLemmas.{copied_part, with_error}
use Rattle.program_files.proofs.spool.copy.Goals as goal

pub returns-in_err-write_part : goal.returns-in_err-write_part
returns-in_err-write_part g c = (
  c.copying.invariant.written ++ c.in_err-write_part.ensures.0,
  Appends-trans _ _ _ _ _ c.copying.invariant.appended c.in_err-write_part.ensures.1,
  with_error (g.R.Read.remaining c.args.reader.now) c.from_residual.result _ c.from_residual.ensures.0
      (λ e. copied_part (g.R.Read.remaining c.args.reader.now) (g.R.Read.remaining c.copying.reader) (g.R.Read.remaining c.read.new.self)
      c.copying.invariant.written (take c.in-Ok.count c.read.new.buf) c.in_err-write_part.ensures.0 e c.copying.invariant.read c.in-Ok.ensures.bytes.0
      c.in_err-write_part.ensures.2),
)

pub copying-preserved : goal.copying-preserved
copying-preserved g c = record {
  written = c.copying.invariant.written ++ c.in_ok-write_part.ensures.0;
  appended = Appends-trans _ _ _ _ _ c.copying.invariant.appended c.in_ok-write_part.ensures.1;
  read = Consumes-trans _ _ _ _ _ c.copying.invariant.read
      (subst (λ w. Consumes (g.R.Read.remaining c.copying.reader) (g.R.Read.remaining c.read.new.self) w) (sym c.in_ok-write_part.ensures.2) c.in-Ok.ensures.bytes.0);
}
