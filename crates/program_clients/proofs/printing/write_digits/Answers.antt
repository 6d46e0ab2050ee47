use Rattle.std.proofs.Common.{◌≡◌, ◌∷◌, [], rules, subst}
use Rattle.std.specs.Fmt.{decimal}
use Rattle.std.specs.Io.KnownBytes.{Appends}
use Rattle.desk_http.specs.Writing.{WritesFront}
use Rattle.program_clients.proofs.LineLemmas.{front_begins, whole_behind}
use Rattle.program_clients.proofs.printing.write_digits.Goals as goal

pub returns-in-Ok : goal.returns-in-Ok
returns-in-Ok g c =
    let same : c.as_bytes.result.now ≡ decimal c.args.number = search rules in
    whole_behind (g.O.Write.contents c.args.output.now) (g.O.Write.contents c.write_whole.new.writer) (g.O.Write.contents c.write_whole-in-Ok.new.writer) (decimal c.args.number) (10 ∷ []) c.write_whole-in-Ok.result
    (subst (Appends (g.O.Write.contents c.args.output.now) (g.O.Write.contents c.write_whole.new.writer)) same c.in-Ok.ensures.ok)
    c.write_whole-in-Ok.ensures.ok c.write_whole-in-Ok.ensures.err

pub returns-in-Err : goal.returns-in-Err
returns-in-Err g c =
    let same : c.as_bytes.result.now ≡ decimal c.args.number = search rules in
    let written = Appends (g.O.Write.contents c.args.output.now) (g.O.Write.contents c.write_whole.new.writer) in
    front_begins written (decimal c.args.number) (10 ∷ []) (subst (WritesFront written) same c.in-Err.ensures.err)
