use Rattle.std.proofs.Common.{◌≡◌}
use Rattle.std.specs.Prelude.{option_map}
use Rattle.feed_mapping.specs.Strangers.{has_own_stranger}
use Rattle.feed_mapping.specs.PartyViews.{pair_view}
use Rattle.feed_outline.proofs.Counts.{count}
use Rattle.feed_mapping.proofs.strangers.has_own_stranger.Given as goal

abbrev pub invariant-loop-node : goal.invariant-loop-node
invariant-loop-node l = has_own_stranger (option_map pair_view l.named) l.rest ≡ has_own_stranger (option_map pair_view l.named) l.product

abbrev pub decreases-loop-node : goal.decreases-loop-node
decreases-loop-node l = count l.rest
