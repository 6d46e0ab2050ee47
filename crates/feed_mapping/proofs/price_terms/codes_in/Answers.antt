use Rattle.std.proofs.Common.{◌++◌, ◌∙◌, Option, ap, sym}
use Rattle.std.specs.Option.{option_to_list}
use Rattle.feed_terms.specs.declared.price.SaidCode.{SaidCode}
use Rattle.feed_mapping.specs.PriceTerms.{code_in}
use Rattle.feed_mapping.proofs.ElementLaws.{one-more}
use Rattle.feed_mapping.proofs.price_terms.codes_in.Goals as goal

pub loop-coded-preserved : goal.loop-coded-preserved
loop-coded-preserved c = one-more (λ x. option_to_list (code_in x)) _ _ _ _ _ _ (sym c.in-Some.ensures)
    (c.in_ok-push_some.ensures ∙ ap (λ (x : Option SaidCode). c.loop-coded.all ++ option_to_list x) c.in_ok-code.ensures) c.loop-coded.invariant
