use Rattle.feed_terms.specs.declared.reading.ReadFault.TheVariants as read_fault
use Rattle.feed_terms.specs.declared.term.TermsFault.TheVariants as fault
use Rattle.program_rules.proofs.terms.report_unread.Goals as goal

pub returns-in-Memory : goal.returns-in-Memory
returns-in-Memory g c = λ text fits. (read_fault.Table fault.Memory, tt, c.report.ensures)
