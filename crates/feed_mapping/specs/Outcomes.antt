-- What a composite comes to.
use Rattle.std.specs.Prelude.{List, [], ◌++◌, Option, Some, None, option_to_list}
use Rattle.std.specs.List.{flat_map}
use Rattle.feed_mapping.specs.Notes.{Reason}
use Rattle.feed_mapping.specs.Records.{Records}

-- nothing; records that are written, with the reasons for which something is left out below it; or
-- it is left out, with all that is below it
pub data Outcome : Type 0 where
  nothing : Outcome
  written : Records → List Reason → Outcome
  left_out : Reason → Outcome

-- records that are written with notes, unless there is a reason that leaves them out
abbrev pub written_unless : Option Reason → Records → List Reason → Outcome
written_unless None records notes = written records notes
written_unless (Some reason) records notes = left_out reason

-- its records
abbrev pub outcome_records : Outcome → Records
outcome_records (written records notes) = records
outcome_records other = []

-- the notes on what is below it
abbrev pub notes_below : Outcome → List Reason
notes_below (written records notes) = notes
notes_below other = []

-- why it is left out, where it is
abbrev pub outcome_reason : Outcome → Option Reason
outcome_reason (left_out reason) = Some reason
outcome_reason other = None

-- all notes: one on a composite that is left out, and none below it
abbrev pub outcome_notes : Outcome → List Reason
outcome_notes outcome = notes_below outcome ++ option_to_list (outcome_reason outcome)

module _ {A : Type 0} (comes : A → Outcome) (composites : List A) where
  -- the records of several composites, one after the other
  abbrev pub all_records : Records
  all_records = flat_map (λ c. outcome_records (comes c)) composites

  -- the notes on several composites
  abbrev pub all_notes : List Reason
  all_notes = flat_map (λ c. outcome_notes (comes c)) composites
