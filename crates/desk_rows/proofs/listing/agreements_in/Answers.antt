use Rattle.std.proofs.Common.{rules}
use Rattle.desk_catalogue.proofs.DoesLemmas.{called, did_as, did_stop}
use Rattle.desk_rows.proofs.ListedRows.{lists_agreements}
use Rattle.desk_rows.proofs.listing.agreements_in.Goals as goal

pub returns : goal.returns
returns g c =
    did_as (called c.in_ok-rows.ensures)
    (λ rows now one. lists_agreements rows now c.in_ok-rows.rows.items c.in_ok-agreements.agreements one.1 one.0 c.in_ok-agreements.ensures.0 c.in_ok-agreements.ensures.1)

pub returns-in_err-agreements : goal.returns-in_err-agreements
returns-in_err-agreements g c = did_stop {e = c.in_err-agreements.field-0.0} (search rules) (called c.in_ok-rows.ensures)
