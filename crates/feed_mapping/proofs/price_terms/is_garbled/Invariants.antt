use Rattle.std.proofs.Common.{◌≡◌}
use Rattle.feed_outline.proofs.Counts.{count}
use Rattle.feed_mapping.specs.PriceTerms.{is_garbled}
use Rattle.feed_mapping.proofs.price_terms.is_garbled.Given as goal

abbrev pub invariant-loop-node : goal.invariant-loop-node
invariant-loop-node l = is_garbled l.rest ≡ is_garbled l.elements

abbrev pub decreases-loop-node : goal.decreases-loop-node
decreases-loop-node l = count l.rest
