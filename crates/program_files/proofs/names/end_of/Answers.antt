use Rattle.std.proofs.Common.{◌≤◌, ◌-◌, arith, eq-eqb, get_or, length}
use Rattle.std.proofs.lemmas.Bool.{ne_eqb}
use Rattle.program_files.specs.Names.{is_slash}
use Rattle.program_files.proofs.NameLemmas.{tail_is}
use Rattle.program_files.proofs.names.end_of.Goals as goal

pub returns-clause-is : goal.returns-clause-is
returns-clause-is c =
    let path = c.args.path.now in
    let inv = c.loop-at.invariant in
    let within : c.loop-at.end ≤ length path = omega arith in
    tail_is is_slash path c.loop-at.end within
    (λ k low high. eq-eqb (get_or path k 0) 47 (inv.behind k low (omega (arith, high))))
    (λ some. ne_eqb (get_or path (c.loop-at.end - 1) 0) 47 (inv.before some))
