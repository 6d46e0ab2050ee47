use Rattle.std.proofs.Common.{◌≡◌, length, map}
use Rattle.feed_mapping.specs.PriceTexts.{first_with_text}
use Rattle.feed_mapping.proofs.price_texts.first_with_text.Given as goal

abbrev pub invariant-loop-rest : goal.invariant-loop-rest
invariant-loop-rest l = first_with_text l.elements (map (λ n. n.now) l.rest) ≡ first_with_text l.elements (map (λ n. n.now) l.names)

abbrev pub decreases-loop-rest : goal.decreases-loop-rest
decreases-loop-rest l = length l.rest
