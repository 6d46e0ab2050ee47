use Rattle.program_run.proofs.RulesLemmas.{reads_named}
use Rattle.program_run.proofs.program.rules_of.Goals as goal

pub returns-in-Some : goal.returns-in-Some
returns-in-Some g c = reads_named _ _ _ c.in-Some.is c.open_table.result c.open_table.ensures
