use Rattle.price_rules.proofs.Texts.{then_text_test}
use Rattle.price_rules.proofs.choice.is_before.Goals as goal

pub returns : goal.returns
returns c = then_text_test _ _ _ _ (c.is_equal.ensures.0 (c.if-not-is_equal.false)) c.is_before_in_series.ensures
