use Rattle.std.proofs.Common.{◌≡◌, length}
use Rattle.std.specs.Prelude.{find, map}
use Rattle.feed_mapping.specs.Elements.{composites, text_or_empty}
use Rattle.feed_mapping.specs.PriceTexts.{is_other}
use Rattle.feed_mapping.proofs.price_texts.other_type.Given as goal

abbrev pub invariant-loop-found : goal.invariant-loop-found
invariant-loop-found l =
    find is_other (map (λ c. text_or_empty l.type_name c.below) (composites l.name l.rest)) ≡ find is_other (map (λ c. text_or_empty l.type_name c.below) (composites l.name l.elements))

abbrev pub decreases-loop-found : goal.decreases-loop-found
decreases-loop-found l = length (composites l.name l.rest)
