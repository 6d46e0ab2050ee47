use Rattle.std.proofs.Common.{◌≡◌, length}
use Rattle.std.specs.List.{list_any}
use Rattle.std.specs.Prelude.{codes}
use Rattle.feed_mapping.specs.Elements.{composites, each_at}
use Rattle.feed_mapping.specs.SupplierCounts.{is_such}
use Rattle.feed_mapping.specs.PartyViews.{pair_view}
use Rattle.feed_mapping.proofs.supplier_counts.is_in.Given as goal

abbrev pub invariant-loop-detail : goal.invariant-loop-detail
invariant-loop-detail l =
    list_any (λ e. is_such (pair_view l.named) l.of_other e.below) (each_at "SupplyDetail" l.rest)
    ≡ list_any (λ e. is_such (pair_view l.named) l.of_other e.below) (each_at "SupplyDetail" l.supply)

abbrev pub decreases-loop-detail : goal.decreases-loop-detail
decreases-loop-detail l = length (composites (codes "SupplyDetail") l.rest)
