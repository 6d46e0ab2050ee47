-- How a rules file reads.
use Rattle.std.specs.Prelude.{◌≡◌, ◌<◌, ◌≤◌, ◌⊎◌, ◌++◌, ◌∷◌, ℕ, List, [], Option, Result, Ok, Err, IsUtf8, codes, length, ⊤}
use Rattle.std.specs.Fmt.{decimal}
use Rattle.price_rules.specs.RulesFile.{precedence_of}
use Rattle.price_rules.specs.declared.precedence.PrecedenceFault.TheVariants as fault
use Rattle.price_rules.specs.declared.precedence.Rule.{Rule}
use Rattle.csv_records.specs.RecordTexts.{limit}
use Rattle.csv_records.specs.Streams.{IsTold}
use Rattle.program_clients.specs.Printing.{PrintEnds}
use Rattle.program_rules.specs.declared.rules.RulesFault.{RulesFault}
use Rattle.program_rules.specs.declared.rules.RulesFault.TheVariants as rules_fault

module _ (text : List ℕ) where
  -- how reading the rules of a text can end
  abbrev pub RulesFit : Result (List Rule) RulesFault → Type 0
  RulesFit (Ok rules) = (length text ≤ limit) × IsUtf8 text × (precedence_of text ≡ Ok rules)
  RulesFit (Err (rules_fault.Table fault.NotToml)) =
      (limit < length text) ⊎ ((¬ (IsUtf8 text)) ⊎ (precedence_of text ≡ Err fault.NotToml))
  RulesFit (Err (rules_fault.Table (fault.BadRule number))) =
      (length text ≤ limit) × IsUtf8 text × (precedence_of text ≡ Err (fault.BadRule number))
  RulesFit (Err (rules_fault.Table fault.Memory)) = ⊤
  RulesFit (Err rules_fault.Unreadable) = ⊤

-- how reading the rules of a file can end, of which that is told: as those of a text
abbrev pub ReadsTable : Option (List ℕ) → Result (List Rule) RulesFault → Type 0
ReadsTable told read = (text : List ℕ) × IsTold told text × RulesFit text read

-- the exit status after a fault of reading the rules: 3 when out of memory, else 2
abbrev pub status_of : RulesFault → ℕ
status_of (rules_fault.Table fault.Memory) = 3
status_of _ = 2

-- the line that says how many rules there are
abbrev pub rules_line : ℕ → List ℕ
rules_line count = codes "rules " ++ decimal count ++ 10 ∷ []

-- Written: these bytes were written
module _ (written : List ℕ → Type 0) where
  -- how the command `rules` can end by how its file reads: with the line of its rules; or with the
  -- status of the fault, and nothing is written
  abbrev pub EndsReading : Result (List Rule) RulesFault → ℕ → Type 0
  EndsReading (Ok rules) status = PrintEnds 0 written (rules_line (length rules)) status
  EndsReading (Err fault) status = (status ≡ status_of fault) × written []

  -- how the command can end: as its file reads, of which this is told
  abbrev pub CheckEnds : Option (List ℕ) → ℕ → Type 0
  CheckEnds told status =
      (read : Result (List Rule) RulesFault) × ReadsTable told read × EndsReading read status
