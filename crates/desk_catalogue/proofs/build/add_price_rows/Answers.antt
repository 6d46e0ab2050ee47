use Rattle.std.proofs.Common.{◌+◌, refl}
use Rattle.std.specs.List.{flat_map}
use Rattle.std.proofs.lemmas.List.Concat.{flat_map-append}
use Rattle.desk_catalogue.specs.EntryRows.{offer_price_rows}
use Rattle.desk_catalogue.proofs.Built.{next-supply}
use Rattle.desk_catalogue.proofs.build.add_price_rows.Goals as goal

pub loop-supply-preserved : goal.loop-supply-preserved
loop-supply-preserved c =
    let rows = offer_price_rows c.args.series.now c.args.reference.now in
    let number = c.loop-supply.supply-index + 1 in
    next-supply (flat_map rows) (flat_map-append rows) _ _ _ _ _ number (number + 1) c.args.supplies.now _ _ c.loop-supply-test.true c.supply-item.is (c.in_ok-place.ensures.rows number) c.in_ok-place.ensures.next refl c.loop-supply.invariant
