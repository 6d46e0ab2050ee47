use Rattle.std.proofs.Common.{refl}
use Rattle.http_requests.proofs.PostedLemmas.{records_absent, records_there}
use Rattle.http_requests.proofs.body.records_in.Goals as goal

pub returns-in-Ok : goal.returns-in-Ok
returns-in-Ok c = records_there c.args.body.now c.in-Ok.records c.in-Ok.ensures.records.1 c.in-Ok.ensures.records.2

pub returns-in-Err-NotUtf8 : goal.returns-in-Err-NotUtf8
returns-in-Err-NotUtf8 c =
    records_absent c.args.body.now ((rw c.in-Err-NotUtf8.field-0-is at c.in-Err-NotUtf8.ensures.only_not_utf8) refl).1
