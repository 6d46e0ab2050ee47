use Rattle.std.proofs.Common.{◌++◌, ◌∙◌, Option, ap, sym}
use Rattle.std.specs.Option.{option_to_list}
use Rattle.feed_terms.specs.declared.price.Discount.{Discount}
use Rattle.feed_mapping.specs.PriceTerms.{discount_in}
use Rattle.feed_mapping.proofs.ElementLaws.{one-more}
use Rattle.feed_mapping.proofs.price_terms.discounts_in.Goals as goal

pub loop-discount-preserved : goal.loop-discount-preserved
loop-discount-preserved c = one-more (λ x. option_to_list (discount_in x)) _ _ _ _ _ _ (sym c.in-Some.ensures)
    (c.in_ok-push_some.ensures ∙ ap (λ (x : Option Discount). c.loop-discount.all ++ option_to_list x) c.discount_in.ensures) c.loop-discount.invariant
