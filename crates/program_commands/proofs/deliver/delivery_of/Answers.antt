use Rattle.std.proofs.Common.{ap}
use Rattle.series_rules.specs.declared.requests.Request.TheVariants.{Deliver}
use Rattle.program_commands.specs.Deliveries.{delivery_of}
use Rattle.program_commands.proofs.deliver.delivery_of.Goals as goal

pub returns-in-Ok : goal.returns-in-Ok
unfolding delivery_of
returns-in-Ok c = let read = c.in-Ok.ensures.records in ((read.0, read.1), ap Deliver read.2)
