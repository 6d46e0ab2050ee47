-- How a command over a desk ends, whichever it is.
use Rattle.std.specs.Prelude.{◌+◌, ℕ, List, [], Option, is_some, map, ⊤}
use Rattle.csv_records.specs.RecordTexts.{limit}
use Rattle.csv_records.specs.Streams.{TakesAtMost}
use Rattle.onix_terms.specs.SeriesName.{series_name_of}
use Rattle.price_rules.specs.declared.precedence.Rule.{Rule}
use Rattle.series_rules.specs.Steps.{Leads, Step}
use Rattle.series_rules.specs.Views.{DeskKind, View}
use Rattle.program_files.specs.Holdings.{Holdings}
use Rattle.program_commands.specs.CommandEnds.{BatchEnds, DeliverEnds, GapsEnds, ServeEnds}
use Rattle.program_words.specs.declared.invocation.Task.{Task}
use Rattle.program_words.specs.declared.invocation.Task.TheVariants as task

-- How a command over a desk can end with this status. Asked: the desk was asked these steps.
-- Written: these bytes were written. Holds: what names hold. Told, left: what the input tells of
-- its bytes, before and behind it
abbrev pub TaskEnds : (List Step → Type 0) → (List ℕ → Type 0) → Task → Holdings
    → Option (List ℕ) → Option (List ℕ) → ℕ → Type 0
TaskEnds asked written task.Batch holds told left status =
    BatchEnds asked written told status × TakesAtMost (limit + 1) told left
TaskEnds asked written (task.Deliver names) holds told left status =
    DeliverEnds asked written holds told (map (λ name. name.now) names.items) status
TaskEnds asked written (task.Gaps name) holds told left status =
    GapsEnds asked written (series_name_of name.now) status
TaskEnds asked written (task.Serve port requests batches) holds told left status =
    ServeEnds asked written (is_some batches) port requests status

-- this is so unless the command is `serve`, of which nothing is said
abbrev pub UnlessServing : Task → Type 0 → Type 0
UnlessServing (task.Serve port requests batches) this = ⊤
UnlessServing _ this = this

-- of a command under these rules, by the same
module _ (rules : List Rule) (written : List ℕ → Type 0) (task : Task) (holds : Holdings)
    (told left : Option (List ℕ)) where
  -- how it can end over a desk that was seen as `old` at first and as `new` at last: what it asked
  -- led from the one to the other
  abbrev pub TaskLeads : {k : DeskKind} → View k → View k → ℕ → Type 0
  TaskLeads old new =
      TaskEnds (λ steps. Leads rules steps old new) written task holds told left

  -- how it can end over a new desk, which has seen no request
  abbrev pub NewDeskEnds : {M : Type 0} → {k : DeskKind} → (M → View k) → ℕ → Type 0
  NewDeskEnds {M} seen status =
      (new last : M) × (seen new).stands_for [] × (seen last).sound
      × TaskLeads (seen new) (seen last) status
