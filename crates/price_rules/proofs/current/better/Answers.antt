use Rattle.std.proofs.Common.{inr, refl}
use Rattle.price_rules.proofs.current.better.Goals as goal

pub returns-in-Some : goal.returns-in-Some
returns-in-Some c = rw c.in-Some.is (inr ((λ _ before. let wrong = c.if-not-outranks.ensures.1 before in cc), refl))
