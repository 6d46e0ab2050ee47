use Rattle.std.proofs.Common.{◌≤◌, Err, arith, subst, sym}
use Rattle.std.proofs.KnownBytes.{Appends-nil}
use Rattle.price_rules.specs.declared.precedence.PrecedenceFault.TheVariants as fault
use Rattle.program_rules.specs.RulesFile.{status_of}
use Rattle.program_rules.specs.declared.rules.RulesFault.{RulesFault}
use Rattle.program_rules.specs.declared.rules.RulesFault.TheVariants as rules_fault
use Rattle.program_rules.proofs.checking.check_rules.Goals as goal

at_most : (f : RulesFault) → status_of f ≤ 3
at_most (rules_fault.Table fault.Memory) = omega arith
at_most (rules_fault.Table fault.NotToml) = omega arith
at_most (rules_fault.Table (fault.BadRule number)) = omega arith
at_most rules_fault.Unreadable = omega arith

pub returns-in-Err-clause-status : goal.returns-in-Err-clause-status
returns-in-Err-clause-status g c = subst (λ s. s ≤ 3) (sym c.status_of.ensures) (at_most c.in-Err.fault)

pub returns-in-Err-clause-end : goal.returns-in-Err-clause-end
returns-in-Err-clause-end g c = (Err c.in-Err.fault, c.in-Err.ensures, (c.status_of.ensures, Appends-nil (g.W.Write.contents c.args.output.now)))
