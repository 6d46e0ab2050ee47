use Rattle.std.proofs.Common.{◌∙◌, sym}
use Rattle.onix_message.proofs.contents.Contents.is_same.Goals as goal

pub returns-clause-meaning : goal.returns-clause-meaning
returns-clause-meaning c = (λ is. c.equal_contents.ensures.passed _ _ (sym c.has_same_products.ensures ∙ is), λ same. c.has_same_products.ensures ∙ c.equal_contents.ensures.equal _ _ same)
