use Rattle.std.proofs.Common.{◌≡◌, ◌++◌, length}
use Rattle.std.specs.Prelude.{codes}
use Rattle.std.specs.List.{flat_map}
use Rattle.std.specs.Option.{option_to_list}
use Rattle.feed_mapping.specs.Elements.{composites}
use Rattle.feed_mapping.specs.PriceTerms.{discount_in}
use Rattle.feed_mapping.proofs.price_terms.discounts_in.Given as goal

abbrev pub invariant-loop-discount : goal.invariant-loop-discount
invariant-loop-discount l =
    l.all ++ flat_map (λ c. option_to_list (discount_in c)) (composites (codes "Discount") l.rest) ≡ flat_map (λ c. option_to_list (discount_in c)) (composites (codes "Discount") l.elements)

abbrev pub decreases-loop-discount : goal.decreases-loop-discount
decreases-loop-discount l = length (composites (codes "Discount") l.rest)
