use Rattle.std.proofs.Common.{rules}
use Rattle.desk_catalogue.proofs.DoesLemmas.{added, changed_then, did_stop}
use Rattle.desk_catalogue.proofs.records.put_records_and_articles.Goals as goal

pub returns : goal.returns
returns g c = changed_then (added c.in_ok-put_records.ensures) (added c.put_articles.ensures)

pub returns-in_err-put_records : goal.returns-in_err-put_records
returns-in_err-put_records g c = did_stop {e = c.in_err-put_records.field-0.0} (search rules) (added c.in_err-put_records.ensures)
