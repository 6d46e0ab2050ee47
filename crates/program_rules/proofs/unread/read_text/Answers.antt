use Rattle.csv_records.proofs.StreamBytes.{some_told}
use Rattle.program_rules.proofs.unread.read_text.Goals as goal

pub returns-in-Err-Memory-clause-err : goal.returns-in-Err-Memory-clause-err
returns-in-Err-Memory-clause-err g c = let told = some_told (g.F.NamedFiles.holds c.args.files.now c.args.name.now) in (told.0, told.1, tt)

pub returns-in-Err-File-clause-err : goal.returns-in-Err-File-clause-err
returns-in-Err-File-clause-err g c = let told = some_told (g.F.NamedFiles.holds c.args.files.now c.args.name.now) in (told.0, told.1, tt)
