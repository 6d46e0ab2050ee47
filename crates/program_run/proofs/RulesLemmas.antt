-- How the rules of a file that is named read.
use Rattle.std.proofs.Common.{◌≡◌, ℕ, List, Option, Some, Result, subst, sym}
use Rattle.std.specs.Borrow.{Bor}
use Rattle.price_rules.specs.declared.precedence.Rule.{Rule}
use Rattle.program_files.specs.Holdings.{Holdings}
use Rattle.program_run.specs.Unread.{ReadsRules}
use Rattle.program_rules.specs.RulesFile.{ReadsTable}
use Rattle.program_rules.specs.declared.rules.RulesFault.{RulesFault}

pub reads_named : (holds : Holdings) (named : Option (Bor (List ℕ))) (name : Bor (List ℕ)) → named ≡ Some name
    → (read : Result (List Rule) RulesFault) → ReadsTable (holds name.now) read → ReadsRules holds named read
reads_named holds named name is read it = subst (λ o. ReadsRules holds o read) (sym is) it
