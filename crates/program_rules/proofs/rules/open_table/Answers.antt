use Rattle.std.proofs.Common.{subst, sym}
use Rattle.csv_records.specs.Streams.{IsTold}
use Rattle.program_rules.proofs.rules.open_table.Goals as goal

pub returns-in-Err : goal.returns-in-Err
returns-in-Err g c = let read = c.in-Err.ensures.err in (read.0, read.1, c.report_unread.ensures read.0 read.2)

pub returns : goal.returns
returns g c =
    let told = g.F.NamedFiles.holds c.args.files.now c.args.name.now in
    (c.as_slice.result.now, subst (IsTold told) (sym c.as_slice.ensures.value) c.in-Ok.ensures.ok.1, c.table_of-read.ensures)
