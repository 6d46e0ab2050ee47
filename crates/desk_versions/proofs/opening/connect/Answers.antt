use Rattle.std.proofs.Common.{◌∙◌, ap, sym, subst}
use Rattle.sqlite.specs.Effect.{Database}
use Rattle.sqlite.specs.Files.{AreFoundIn, file_state, image_of}
use Rattle.sqlite.specs.State.{HasCleanDisk}
use Rattle.desk_versions.proofs.opening.connect.Goals as goal

pub returns-then-takes-clause-taken : goal.returns-then-takes-clause-taken
returns-then-takes-clause-taken g c = λ clean. let found = c.in-Ok.ensures.found clean in (found.reads, found.holds)

pub returns-else-takes-clause-left : goal.returns-else-takes-clause-left
returns-else-takes-clause-left g c = λ clean d may.
    let was : HasCleanDisk (file_state c.in-Ok.connection) = c.unopened.ensures.clean clean in
    let found = c.in-Ok.ensures.found was in
    let is = c.unopened.ensures.left (c.in-Ok.ensures.opened was).0.is_open d may in
    (subst (AreFoundIn (image_of g.D.Disk c.args.files)) (sym is) found.reads, λ db both. is ∙ found.holds db both)

pub returns-in-Err-clause-left : goal.returns-in-Err-clause-left
returns-in-Err-clause-left g c = c.in-Err.ensures.unharmed
