use Rattle.std.proofs.Common.{◌≤◌, ◌-◌, ◌==◌, ap, arith, eq-eqb, get_or, length, not}
use Rattle.std.proofs.lemmas.Bool.{ne_eqb}
use Rattle.program_files.proofs.NameLemmas.{tail_is}
use Rattle.program_files.proofs.names.behind_last.Goals as goal

pub returns-clause-is : goal.returns-clause-is
returns-clause-is c =
    let text = c.args.text.now in
    let inv = c.loop-at.invariant in
    let within : c.loop-at.start ≤ length text = omega arith in
    tail_is (λ b. not (b == c.args.byte)) text c.loop-at.start within
    (λ k low high. ap not (ne_eqb (get_or text k 0) c.args.byte (inv.behind k low (omega (arith, high)))))
    (λ some. ap not (eq-eqb (get_or text (c.loop-at.start - 1) 0) c.args.byte (inv.before some)))
