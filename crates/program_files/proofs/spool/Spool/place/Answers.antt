use Rattle.std.proofs.Common.{◌++◌, subst, sym}
use Rattle.std.proofs.KnownBytes.{Appends-trans}
use Rattle.program_files.specs.Texts.{IsWritten, told_texts}
use Rattle.program_files.proofs.spool.Spool.place.Goals as goal

pub returns : goal.returns
returns g c =
    let written = c.in_ok-write_part.ensures.0 ++ c.copy.ensures.0 in (
      written,
      Appends-trans _ _ _ _ _ c.in_ok-write_part.ensures.1 c.copy.ensures.1,
      subst (λ f. IsWritten (told_texts c.args.self.first.items f) c.copy.result written) (sym c.in-Some.is) tt,
    )
