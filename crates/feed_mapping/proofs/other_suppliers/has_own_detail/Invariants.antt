use Rattle.std.proofs.Common.{◌≡◌, length}
use Rattle.std.specs.Prelude.{codes, option_map}
use Rattle.feed_mapping.specs.Elements.{composites}
use Rattle.feed_mapping.specs.OtherSuppliers.{has_own_detail}
use Rattle.feed_mapping.specs.PartyViews.{pair_view}
use Rattle.feed_mapping.proofs.other_suppliers.has_own_detail.Given as goal

abbrev pub invariant-loop-supply : goal.invariant-loop-supply
invariant-loop-supply l =
    has_own_detail (option_map pair_view l.named) l.rest ≡ has_own_detail (option_map pair_view l.named) l.product

abbrev pub decreases-loop-supply : goal.decreases-loop-supply
decreases-loop-supply l = length (composites (codes "ProductSupply") l.rest)
