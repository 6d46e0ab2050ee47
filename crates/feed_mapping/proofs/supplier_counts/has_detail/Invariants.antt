use Rattle.std.proofs.Common.{◌≡◌, length}
use Rattle.std.specs.List.{list_any}
use Rattle.std.specs.Prelude.{codes}
use Rattle.feed_mapping.specs.Elements.{composites, each_at}
use Rattle.feed_mapping.specs.SupplierCounts.{is_such}
use Rattle.feed_mapping.specs.PartyViews.{pair_view}
use Rattle.feed_mapping.proofs.supplier_counts.has_detail.Given as goal

abbrev pub invariant-loop-supply : goal.invariant-loop-supply
invariant-loop-supply l =
    list_any (λ e. list_any (λ d. is_such (pair_view l.named) l.of_other d.below) (each_at "SupplyDetail" e.below)) (each_at "ProductSupply" l.rest)
    ≡ list_any (λ e. list_any (λ d. is_such (pair_view l.named) l.of_other d.below) (each_at "SupplyDetail" e.below)) (each_at "ProductSupply" l.product)

abbrev pub decreases-loop-supply : goal.decreases-loop-supply
decreases-loop-supply l = length (composites (codes "ProductSupply") l.rest)
