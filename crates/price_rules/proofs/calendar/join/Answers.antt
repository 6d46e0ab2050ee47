use Rattle.std.proofs.Common.{inl, inr, refl}
use Rattle.price_rules.proofs.Tests.{other_amounts, same_amounts}
use Rattle.price_rules.proofs.calendar.join.Goals as goal

pub returns-then-eq : goal.returns-then-eq
returns-then-eq c = inl (same_amounts c.args.before.amount c.args.span.amount c.if-eq.ensures, refl, refl)

pub returns : goal.returns
returns c = inr (other_amounts c.args.before.amount c.args.span.amount c.if-eq.ensures, c.in_ok-push.ensures.ok, refl)
