use Rattle.std.proofs.Common.{◌++◌, ◌∷◌, [], ap, fold, ◌∙◌}
use Rattle.price_rules.proofs.Collected.{all_collected}
use Rattle.series_rules.specs.Offers.{offers_after}
use Rattle.desk_memory.proofs.desk.offers_of.Goals as goal

pub returns : goal.returns
returns c = λ L stands.
    let offers = offers_after L c.args.isbn.now in
    c.in_ok-collect_offers.ensures L stands ∙ ap (λ was. fold (λ os o. os ++ o ∷ []) was offers) c.new-offers.ensures ∙ all_collected [] offers
