use Rattle.std.proofs.Common.{take}
use Rattle.std.proofs.KnownBytes.{Appends-trans, Consumes-trans}
use Rattle.std.specs.Io.KnownBytes.{Appends}
use Rattle.program_commands.proofs.SendingLemmas.{wrote_came, wrote_part}
use Rattle.program_commands.proofs.sending.take_all.Goals as goal

pub returns-then-is_err-clause-err : goal.returns-then-is_err-clause-err
returns-then-is_err-clause-err g c =
    let inv = c.taking.invariant in
    wrote_came (g.S.Read.remaining c.args.from.now) (g.S.Read.remaining c.taking.from) (Appends (g.W.Write.contents c.args.output.now) (g.W.Write.contents c.taking.output)) c.taking.bytes.items inv.so_far inv.written

pub returns-in-Err-write_whole-clause-err : goal.returns-in-Err-write_whole-clause-err
returns-in-Err-write_whole-clause-err g c =
    let inv = c.taking.invariant in
    let chunk = take c.in-Ok.n c.read.new.buf in
    let front = c.in-Err-write_whole.ensures.err in
    wrote_part (g.S.Read.remaining c.args.from.now) (g.S.Read.remaining c.read.new.self) (Appends (g.W.Write.contents c.args.output.now) (g.W.Write.contents c.write_whole.new.writer)) c.taking.bytes.items chunk front.0 front.1
    (Consumes-trans (g.S.Read.remaining c.args.from.now) (g.S.Read.remaining c.taking.from) (g.S.Read.remaining c.read.new.self) c.taking.bytes.items chunk inv.so_far c.in-Ok.ensures.bytes.0)
    front.2
    (Appends-trans (g.W.Write.contents c.args.output.now) (g.W.Write.contents c.taking.output) (g.W.Write.contents c.write_whole.new.writer) c.taking.bytes.items front.0 inv.written front.3)

pub returns-in-Err-clause-err : goal.returns-in-Err-clause-err
returns-in-Err-clause-err g c =
    let inv = c.taking.invariant in
    wrote_came (g.S.Read.remaining c.args.from.now) (g.S.Read.remaining c.taking.from) (Appends (g.W.Write.contents c.args.output.now) (g.W.Write.contents c.taking.output)) c.taking.bytes.items inv.so_far inv.written

pub returns-clause-err : goal.returns-clause-err
returns-clause-err g c =
    let inv = c.taking.invariant in
    wrote_came (g.S.Read.remaining c.args.from.now) (g.S.Read.remaining c.taking.from) (Appends (g.W.Write.contents c.args.output.now) (g.W.Write.contents c.taking.output)) c.taking.bytes.items inv.so_far inv.written
