use Rattle.std.proofs.Common.{sym, ◌∙◌}
use Rattle.desk_catalogue.proofs.DoesLemmas.{did_as}
use Rattle.desk_catalogue.proofs.ProductLemmas.{product_applied}
use Rattle.desk_catalogue.proofs.messages.apply_product.Goals as goal

pub returns-clause-does : goal.returns-clause-does
returns-clause-does g c =
    did_as c.in_ok-change_record.ensures
    (λ rows after one. λ m held storable finds. product_applied c.args.series.now m c.args.product.now c.in_ok-row.row c.of-change.result c.args.found c.args.effect c.counted.result rows after c.in_ok-row.ensures c.of-change.ensures finds one
    (λ was there. c.counted.ensures.counts was (there ∙ sym c.is_there.ensures)) held storable)
