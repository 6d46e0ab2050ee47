use Rattle.std.proofs.Common.{ap, ◌∙◌}
use Rattle.series_rules.specs.declared.answers.Answer.TheVariants.{Price}
use Rattle.series_rules.specs.Offers.{offers_after}
use Rattle.series_rules.proofs.CollectedPrices.{prices_of_all}
use Rattle.series_rules.proofs.ViewLemmas.{only_made}
use Rattle.series_rules.proofs.answering.answer_price.Goals as goal

pub returns : goal.returns
returns g c =
    only_made _ _ _ _ _ _
    (λ L is. ap (λ prices. Price c.args.isbn.now prices.offers) is ∙ ap (Price c.args.isbn.now) (prices_of_all c.new.result c.args.query.now (offers_after L c.args.isbn.now) c.new.ensures.query c.new.ensures.none))
    c.in_ok-prices.ensures
