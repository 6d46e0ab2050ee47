use Rattle.std.proofs.Common.{◌<◌, ◌+◌, length, take, length-take, arith}
use Rattle.csv_records.proofs.StreamBytes.{long_told, some_told, takes_more}
use Rattle.csv_records.proofs.streams.read_input.Goals as goal

pub returns-then-is_err-clause-err : goal.returns-then-is_err-clause-err
returns-then-is_err-clause-err g c = some_told (g.R.Read.remaining c.args.reader.now)

pub returns-in-Err-clause-err : goal.returns-in-Err-clause-err
returns-in-Err-clause-err g c = some_told (g.R.Read.remaining c.args.reader.now)

pub returns-clause-err : goal.returns-clause-err
returns-clause-err g c =
    let long : c.args.most < length c.reading.bytes.items = omega arith in
    long_told c.args.most (g.R.Read.remaining c.args.reader.now) (g.R.Read.remaining c.reading.reader) c.reading.bytes.items c.reading.invariant.so_far long

pub returns-then-is_err-clause-taken : goal.returns-then-is_err-clause-taken
returns-then-is_err-clause-taken g c =
    let room = c.min-room.result + 1 in
    takes_more (c.args.most + 1) (g.R.Read.remaining c.args.reader.now) (g.R.Read.remaining c.reading.reader) (g.R.Read.remaining c.read.new.self) c.reading.bytes.items (take c.in-Ok.n c.read.new.buf) c.reading.invariant.so_far c.in-Ok.ensures.bytes.0
    (omega (arith, c.in-Ok.ensures.bound, length-take room c.reading.chunk))
