-- The offer that the shop chooses, with its rule and its price.
use Rattle.std.specs.Prelude.{List, [], ◌∷◌, Option, Some, None, option_map, slice_get}
use Rattle.onix_terms.specs.Options.{◌>>=◌}
use Rattle.price_rules.specs.Chosen.{choice}
use Rattle.price_rules.specs.declared.choice.BestOffer.{BestOffer}
use Rattle.price_rules.specs.declared.choice.Choice.{Choice}
use Rattle.price_rules.specs.declared.offer.Offer.{Offer}
use Rattle.price_rules.specs.declared.offer.PriceQuery.{PriceQuery}
use Rattle.price_rules.specs.declared.precedence.Rule.{Rule}

-- the offer that a choice is of, with its rule and its price
abbrev pub offer_of_choice : List Offer → Choice → Option BestOffer
offer_of_choice offers c =
    option_map (λ o. record { rule = c.rule; offer = o; amount = c.amount })
    (slice_get offers c.offer_index)

-- the offer that the rules choose, with its rule and its price
abbrev pub best_offer : List Rule → PriceQuery → List Offer → Option BestOffer
best_offer rules q offers = choice rules offers q >>= offer_of_choice offers

-- the list of that offer, if there is one
abbrev pub alone : Option BestOffer → List Offer
alone None = []
alone (Some best) = best.offer ∷ []
