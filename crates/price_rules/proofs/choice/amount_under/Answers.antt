use Rattle.std.proofs.Common.{Some, None, refl, subst}
use Rattle.price_rules.specs.Choice.{IsWithin}
use Rattle.price_rules.proofs.CurrentPrice.{current_unique}
use Rattle.price_rules.proofs.Scan.{same_some}
use Rattle.price_rules.proofs.choice.amount_under.Goals as goal

pub returns-then-not-admits-clause-none : goal.returns-then-not-admits-clause-none
returns-then-not-admits-clause-none c = λ amount fits. let wrong = c.if-not-admits.ensures.1 fits.0 in cc

pub returns-in_err-amount-clause-some : goal.returns-in_err-amount-clause-some
returns-in_err-amount-clause-some c = rw c.from_residual.ensures tt

pub returns-in_err-amount-clause-none : goal.returns-in_err-amount-clause-none
returns-in_err-amount-clause-none c =
    rw c.from_residual.ensures
    (λ amount fits. let wrong = current_unique c.args.offer.now c.args.query.now None (Some amount) c.in_err-amount.ensures.meaning fits.1 in cc)

pub returns-then-is_within-clause-some : goal.returns-then-is_within-clause-some
returns-then-is_within-clause-some c = (c.if-not-admits.ensures.0 refl, c.in_ok-amount.ensures.meaning, c.if-is_within.ensures.0 refl)

pub returns-else-is_within-clause-none : goal.returns-else-is_within-clause-none
returns-else-is_within-clause-none c = λ amount fits.
    let found = c.in_ok-amount.amount in
    let same = same_some amount found (current_unique c.args.offer.now c.args.query.now (Some amount) (Some found) fits.1 c.in_ok-amount.ensures.meaning) in
    let wrong = c.if-is_within.ensures.1 (subst (IsWithin c.args.rule.now.max) same fits.2) in
    cc
