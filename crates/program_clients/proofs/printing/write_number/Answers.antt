use Rattle.std.proofs.Common.{◌≡◌, ◌++◌, ◌∷◌, [], append_assoc, rules, subst, sym}
use Rattle.std.specs.Fmt.{decimal}
use Rattle.std.specs.Io.KnownBytes.{Appends}
use Rattle.desk_http.specs.Writing.{WritesFront}
use Rattle.program_clients.proofs.LineLemmas.{front_begins, all_behind}
use Rattle.program_clients.specs.Printing.{WritesWhole}
use Rattle.program_clients.proofs.printing.write_number.Goals as goal

pub returns-in-Ok : goal.returns-in-Ok
returns-in-Ok g c =
    let same : c.as_bytes.result.now ≡ c.args.before.now = search rules in
    subst (λ text. WritesWhole (Appends (g.O.Write.contents c.args.output.now) (g.O.Write.contents c.write_digits.new.output)) text c.write_digits.result)
    (sym (append_assoc c.args.before.now (decimal c.args.number) (10 ∷ [])))
    (all_behind (g.O.Write.contents c.args.output.now) (g.O.Write.contents c.write_whole.new.writer) (g.O.Write.contents c.write_digits.new.output) c.args.before.now (decimal c.args.number ++ 10 ∷ []) c.write_digits.result
    (subst (Appends (g.O.Write.contents c.args.output.now) (g.O.Write.contents c.write_whole.new.writer)) same c.in-Ok.ensures.ok)
    c.write_digits.ensures)

pub returns-in-Err : goal.returns-in-Err
returns-in-Err g c =
    let same : c.as_bytes.result.now ≡ c.args.before.now = search rules in
    let written = Appends (g.O.Write.contents c.args.output.now) (g.O.Write.contents c.write_whole.new.writer) in
    subst (λ text. WritesFront written text) (sym (append_assoc c.args.before.now (decimal c.args.number) (10 ∷ [])))
    (front_begins written c.args.before.now (decimal c.args.number ++ 10 ∷ []) (subst (WritesFront written) same c.in-Err.ensures.err))
