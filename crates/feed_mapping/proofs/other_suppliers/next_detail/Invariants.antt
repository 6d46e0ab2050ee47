use Rattle.std.proofs.Common.{◌≡◌, length}
use Rattle.std.specs.Prelude.{codes, option_map}
use Rattle.feed_mapping.specs.Elements.{composites}
use Rattle.feed_mapping.specs.OtherSuppliers.{own_details}
use Rattle.feed_mapping.specs.PartyViews.{pair_view}
use Rattle.feed_mapping.proofs.other_suppliers.next_detail.Given as goal

abbrev pub invariant-loop-detail : goal.invariant-loop-detail
invariant-loop-detail l = own_details (option_map pair_view l.named) l.rest ≡ own_details (option_map pair_view l.named) l.supply

abbrev pub decreases-loop-detail : goal.decreases-loop-detail
decreases-loop-detail l = length (composites (codes "SupplyDetail") l.rest)
