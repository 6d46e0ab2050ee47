use Rattle.std.proofs.Common.{ap, ◌∙◌}
use Rattle.std.specs.Prelude.{option_map}
use Rattle.series_rules.specs.declared.answers.Answer.TheVariants.{Choice}
use Rattle.series_rules.specs.Offers.{offers_after}
use Rattle.series_rules.specs.PriceAnswers.{named_best}
use Rattle.series_rules.proofs.CollectedPrices.{chosen_of_all}
use Rattle.series_rules.proofs.ViewLemmas.{only_made}
use Rattle.series_rules.proofs.answering.answer_choice.Goals as goal

pub returns : goal.returns
returns g c =
    only_made _ _ _ _ _ _
    (λ L is. ap (Choice c.args.isbn.now) (c.into_chosen.ensures ∙ ap (λ choice. option_map named_best choice.best) is ∙ chosen_of_all c.new.result c.args.precedence.now c.args.query.now (offers_after L c.args.isbn.now) c.new.ensures.rules c.new.ensures.query c.new.ensures.none))
    c.in_ok-choice.ensures
