use Rattle.catalogue_rules.proofs.Plans.{no_change}
use Rattle.catalogue_rules.proofs.plan.Plan.new.Goals as goal

pub returns-clause-plan : goal.returns-clause-plan
returns-clause-plan c = λ base. rw (c.new.ensures, c.new-2.ensures.items) (no_change base)
