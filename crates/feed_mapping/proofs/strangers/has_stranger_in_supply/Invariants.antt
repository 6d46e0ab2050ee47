use Rattle.std.proofs.Common.{◌≡◌}
use Rattle.std.specs.Prelude.{option_map}
use Rattle.feed_mapping.specs.Strangers.{has_stranger_in_supply}
use Rattle.feed_mapping.specs.PartyViews.{pair_view}
use Rattle.feed_outline.proofs.Counts.{count}
use Rattle.feed_mapping.proofs.strangers.has_stranger_in_supply.Given as goal

abbrev pub invariant-loop-node : goal.invariant-loop-node
invariant-loop-node l = has_stranger_in_supply (option_map pair_view l.named) l.rest ≡ has_stranger_in_supply (option_map pair_view l.named) l.supply

abbrev pub decreases-loop-node : goal.decreases-loop-node
decreases-loop-node l = count l.rest
