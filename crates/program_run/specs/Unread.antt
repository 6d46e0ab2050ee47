-- What the program reads before a command: its rules, and words that are no command line.
use Rattle.std.specs.Prelude.{◌≡◌, ℕ, List, [], Result, Ok, Option, Some, None, string_bytes}
use Rattle.std.specs.Borrow.{Bor}
use Rattle.price_rules.specs.declared.precedence.Rule.{Rule}
use Rattle.program_files.specs.Holdings.{Holdings}
use Rattle.program_clients.specs.Printing.{PrintEnds}
use Rattle.program_rules.specs.RulesFile.{ReadsTable}
use Rattle.program_rules.specs.declared.rules.RulesFault.{RulesFault}
use Rattle.program_words.specs.declared.invocation.Reading.{Reading}
use Rattle.program_words.specs.declared.invocation.Reading.TheVariants as reading

-- how the rules of a precedence table can read: none are named, or as those of the file of that
-- name. Holds: what names hold
abbrev pub ReadsRules : Holdings → Option (Bor (List ℕ)) → Result (List Rule) RulesFault → Type 0
ReadsRules holds None read = read ≡ Ok []
ReadsRules holds (Some name) read = ReadsTable (holds name.now) read

-- how words that are no command line can end: with the help that they ask for; with 2 where they
-- are wrong, and with 3 where memory ran out, and nothing written. Written: these bytes were
-- written
abbrev pub UnreadEnds : (List ℕ → Type 0) → Reading → ℕ → Type 0
UnreadEnds written (reading.Run invocation) status = ⊥
UnreadEnds written (reading.Help text) status = PrintEnds 0 written (string_bytes text) status
UnreadEnds written reading.Memory status = (status ≡ 3) × written []
UnreadEnds written _ status = (status ≡ 2) × written []

-- these words are no command line, and end so. Reads: how words read
abbrev pub IsNoCommand : (List (List ℕ) → Reading → Type 0) → (List ℕ → Type 0) → List (List ℕ)
    → ℕ → Type 0
IsNoCommand reads written words status =
    (read : Reading) × reads words read × UnreadEnds written read status
