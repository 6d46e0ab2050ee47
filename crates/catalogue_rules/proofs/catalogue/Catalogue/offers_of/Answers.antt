use Rattle.std.proofs.Common.{[], ap, ◌∙◌}
use Rattle.std.specs.Prelude.{◌++◌, ◌∷◌, fold}
use Rattle.price_rules.proofs.Collected.{all_collected}
use Rattle.catalogue_rules.specs.Offers.{offers_in}
use Rattle.catalogue_rules.proofs.catalogue.Catalogue.offers_of.Goals as goal

pub returns : goal.returns
returns c =
    let offers = offers_in c.args.series.now c.args.self.now c.args.isbn.now in
    c.in_ok-collect_offers.ensures ∙ ap (λ was. fold (λ os o. os ++ o ∷ []) was offers) c.new-offers.ensures ∙ all_collected [] offers
