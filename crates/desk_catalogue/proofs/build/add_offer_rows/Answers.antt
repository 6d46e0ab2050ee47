use Rattle.std.proofs.Common.{map}
use Rattle.std.proofs.lemmas.List.{map-append}
use Rattle.desk_catalogue.specs.EntryRows.{offer_row_of}
use Rattle.desk_catalogue.proofs.Built.{next-supply}
use Rattle.desk_catalogue.proofs.build.add_offer_rows.Goals as goal

pub loop-supply-preserved : goal.loop-supply-preserved
loop-supply-preserved c =
    let row = offer_row_of c.args.series.now c.args.reference.now in
    next-supply (map row) (map-append row) _ _ _ _ _ _ _ c.args.supplies.now _ _ c.loop-supply-test.true c.supply-item.is c.in_ok-place.ensures.rows c.in_ok-place.ensures.next c.in_ok-number.ensures c.loop-supply.invariant
