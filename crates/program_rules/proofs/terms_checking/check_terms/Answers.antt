use Rattle.std.proofs.Common.{◌≤◌, Err, List, Ok, arith, length, subst, sym}
use Rattle.std.proofs.KnownBytes.{Appends-nil}
use Rattle.std.specs.Io.KnownBytes.{Appends}
use Rattle.feed_terms.specs.declared.reading.ReadFault.{ReadFault}
use Rattle.feed_terms.specs.declared.reading.ReadFault.TheVariants as read_fault
use Rattle.feed_terms.specs.declared.term.Term.{Term}
use Rattle.feed_terms.specs.declared.term.TermsFault.TheVariants as fault
use Rattle.program_clients.specs.Printing.{PrintEnds}
use Rattle.program_rules.specs.TermsRead.{terms_line, terms_status}
use Rattle.program_rules.proofs.terms_checking.check_terms.Goals as goal

at_most : (f : ReadFault) → terms_status f ≤ 3
at_most (read_fault.Table fault.Memory) = omega arith
at_most (read_fault.Table fault.NotToml) = omega arith
at_most (read_fault.Table (fault.BadTerm number)) = omega arith
at_most read_fault.Unreadable = omega arith

pub returns-in-Err-clause-status : goal.returns-in-Err-clause-status
returns-in-Err-clause-status g c = let found = c.in-Err.ensures.err in subst (λ s. s ≤ 3) (sym found.2) (at_most found.0)

pub returns-in-Err-clause-end : goal.returns-in-Err-clause-end
returns-in-Err-clause-end g c =
    let found = c.in-Err.ensures.err in
    (Err found.0, found.1, (found.2, Appends-nil (g.W.Write.contents c.args.output.now)))

pub returns-in-Ok-clause-end : goal.returns-in-Ok-clause-end
returns-in-Ok-clause-end g c =
    let printed = subst (λ (terms : List Term). PrintEnds 0 (Appends (g.W.Write.contents c.args.output.now) (g.W.Write.contents c.print_count.new.output)) (terms_line (length terms)) c.print_count.result) c.terms-in-Ok-2.ensures.terms c.print_count.ensures in
    (Ok c.in-Ok.terms, c.in-Ok.ensures.ok, printed)
