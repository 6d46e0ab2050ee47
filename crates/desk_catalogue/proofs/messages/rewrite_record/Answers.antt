use Rattle.std.proofs.Common.{Some, None}
use Rattle.desk_catalogue.proofs.DoesLemmas.{did_then}
use Rattle.desk_catalogue.proofs.HoldingLemmas.{became_then}
use Rattle.desk_catalogue.proofs.messages.rewrite_record.Goals as goal

pub returns : goal.returns
returns g c =
    let row = c.args.row.now in
    did_then c.in_ok-remove_record.ensures c.write_record.ensures
    (λ rows between after b one two. λ some storable. became_then row.series row.reference None (Some (record { ids = c.args.ids.now; supplies = c.args.supplies.now })) rows between after one (two one.entry_held some storable))
