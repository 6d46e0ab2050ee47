use Rattle.std.proofs.Common.{ap, length}
use Rattle.onix_records.proofs.Fronts.{stops-none, stops-one}
use Rattle.onix_message.proofs.message.read_message.Goals as goal

pub returns-in_default-clause-fault : goal.returns-in_default-clause-fault
returns-in_default-clause-fault c = stops-none c.args.records.now (ap length c.in_default.ensures.none)

pub returns-in-Err-Wrong-clause-fault : goal.returns-in-Err-Wrong-clause-fault
returns-in-Err-Wrong-clause-fault c =
    stops-one c.args.records.now c.in-Some.first c.in-Some.rest c.in-Some.ensures.some (rw c.in-Err-Wrong.field-0-is at c.in-Err-Wrong.ensures)
