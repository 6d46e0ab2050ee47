use Rattle.std.proofs.Common.{◌≡◌, ◌++◌, length}
use Rattle.std.specs.Prelude.{codes}
use Rattle.std.specs.List.{flat_map}
use Rattle.std.specs.Option.{option_to_list}
use Rattle.feed_mapping.specs.Elements.{composites}
use Rattle.feed_mapping.specs.PriceTerms.{code_in}
use Rattle.feed_mapping.proofs.price_terms.codes_in.Given as goal

abbrev pub invariant-loop-coded : goal.invariant-loop-coded
invariant-loop-coded l =
    l.all ++ flat_map (λ c. option_to_list (code_in c)) (composites (codes "DiscountCoded") l.rest) ≡ flat_map (λ c. option_to_list (code_in c)) (composites (codes "DiscountCoded") l.elements)

abbrev pub decreases-loop-coded : goal.decreases-loop-coded
decreases-loop-coded l = length (composites (codes "DiscountCoded") l.rest)
