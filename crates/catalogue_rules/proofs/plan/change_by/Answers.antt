use Rattle.std.proofs.Common.{Some, ap}
use Rattle.catalogue_rules.proofs.plan.change_by.Goals as goal

pub returns-in_ok-copy_of-in-Replace : goal.returns-in_ok-copy_of-in-Replace
returns-in_ok-copy_of-in-Replace c = rw c.in-Replace.is (ap (λ e. Some e) c.in_ok-copy_of-in-Replace.ensures)
